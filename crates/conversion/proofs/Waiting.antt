-- The normal form by a stack of frames.
use Rattle.std.proofs.Common.{List, [], ◌∷◌, ◌++◌, ◌≡◌, ◌+◌, ◌-◌, ◌<◌, ◌≤◌, ℕ, zero, suc, Bool, true, false, Some, None, refl, ap, subst, ◌∙◌, sym as flip, arith, length}
use Rattle.dk_model.specs.Trees.{Tree, apply, bare, annotated, product}
use Rattle.dk_model.specs.Signatures.{PlainSignature}
use Rattle.dk_model.specs.Units.{Units, bind}
use Rattle.dk_model.specs.Taking.{Takes}
use Rattle.dk_model.specs.Parts.{each_normal}
use Rattle.dk_model.specs.Evaluation.{whnf_of, normal_of}
use Rattle.dk_model.proofs.Turns.{normal_is}
use Rattle.shared_term.specs.declared.id.TermId.{TermId}
use Rattle.shared_term.specs.Pools.{Node, term, Extends}
use Rattle.conversion.specs.declared.normal.Frame.{Frame}
use Rattle.conversion.specs.declared.normal.Frame.TheVariants.{Argument, Function, Body, Annotation, Annotated, Domain, Codomain, Conclude}
use Rattle.conversion.specs.Waiting.{IsFrame, AreFrames, continued, resumed, IsWaiting, AreWaiting, IsResumed, value_due, IsOpenPart}
use Rattle.conversion.specs.declared.normal.OpenPart.{OpenPart}

-- frames of a pool

pub frames_pushed : (n : ℕ) (fs : List Frame) (f : Frame) → AreFrames n fs → IsFrame n f → AreFrames n (fs ++ (f ∷ []))
frames_pushed n [] f h l = (l, tt)
frames_pushed n (g ∷ fs) f h l = (h.0, frames_pushed n fs f h.1 l)

pub frames_popped : (n : ℕ) (fs : List Frame) (f : Frame) → AreFrames n (fs ++ (f ∷ [])) → AreFrames n fs
frames_popped n [] f h = tt
frames_popped n (g ∷ fs) f h = (h.0, frames_popped n fs f h.1)

pub frame_popped : (n : ℕ) (fs : List Frame) (f : Frame) → AreFrames n (fs ++ (f ∷ [])) → IsFrame n f
frame_popped n [] f h = h.0
frame_popped n (g ∷ fs) f h = frame_popped n fs f h.1

frame_grown : (m n : ℕ) (f : Frame) → m ≤ n → IsFrame m f → IsFrame n f
frame_grown m n (Argument a) l h = omega arith
frame_grown m n (Function a) l h = omega arith
frame_grown m n Body l h = tt
frame_grown m n (Annotation a) l h = omega arith
frame_grown m n (Annotated a) l h = omega arith
frame_grown m n (Domain a) l h = omega arith
frame_grown m n (Codomain a) l h = omega arith
frame_grown m n (Conclude a b) l h = omega arith

frames_grown : (m n : ℕ) (fs : List Frame) → m ≤ n → AreFrames m fs → AreFrames n fs
frames_grown m n [] l h = tt
frames_grown m n (f ∷ fs) l h = (frame_grown m n f l h.0, frames_grown m n fs l h.1)

-- whether a term has no parts
abbrev pub is_leaf : Tree → Bool
is_leaf (apply f a) = false
is_leaf (bare b) = false
is_leaf (annotated n b) = false
is_leaf (product a b) = false
is_leaf t = true

module _ (S : PlainSignature) where
  continued_grown : (old new : List Node) (f : Frame) → Extends old new → IsFrame (length old) f → continued S new f ≡ continued S old f
  continued_grown old new (Argument a) e h = ap {B = Tree → ℕ → Units Tree} (λ (t : Tree) (v : Tree) (n : ℕ). bind (normal_of S n t) (λ b m. Some (apply v b, m))) (e.keeps a.0 h)
  continued_grown old new (Function a) e h = ap {B = Tree → ℕ → Units Tree} (λ (t : Tree) (v : Tree) (n : ℕ). Some (apply t v, n)) (e.keeps a.0 h)
  continued_grown old new Body e h = refl
  continued_grown old new (Annotation a) e h = ap {B = Tree → ℕ → Units Tree} (λ (t : Tree) (v : Tree) (n : ℕ). bind (normal_of S n t) (λ b m. Some (annotated v b, m))) (e.keeps a.0 h)
  continued_grown old new (Annotated a) e h = ap {B = Tree → ℕ → Units Tree} (λ (t : Tree) (v : Tree) (n : ℕ). Some (annotated t v, n)) (e.keeps a.0 h)
  continued_grown old new (Domain a) e h = ap {B = Tree → ℕ → Units Tree} (λ (t : Tree) (v : Tree) (n : ℕ). bind (normal_of S n t) (λ b m. Some (product v b, m))) (e.keeps a.0 h)
  continued_grown old new (Codomain a) e h = ap {B = Tree → ℕ → Units Tree} (λ (t : Tree) (v : Tree) (n : ℕ). Some (product t v, n)) (e.keeps a.0 h)
  continued_grown old new (Conclude a b) e h = refl

  resumed_grown : (old new : List Node) (fs : List Frame) (x : Units Tree) → Extends old new → AreFrames (length old) fs → resumed S new fs x ≡ resumed S old fs x
  resumed_grown old new [] x e h = refl
  resumed_grown old new (f ∷ fs) x e h = let p = resumed_grown old new fs x e h.1 in let q = continued_grown old new f e h.0 in λ i. bind (p i) (q i)

  resumed_pushed : (ns : List Node) (fs : List Frame) (f : Frame) (x : Units Tree) → resumed S ns (fs ++ (f ∷ [])) x ≡ resumed S ns fs (bind x (continued S ns f))
  resumed_pushed ns [] f x = refl
  resumed_pushed ns (g ∷ fs) f x = ap (λ y. bind y (continued S ns g)) (resumed_pushed ns fs f x)

  resumed_none : (ns : List Node) (fs : List Frame) → resumed S ns fs None ≡ None
  resumed_none ns [] = refl
  resumed_none ns (f ∷ fs) = ap (λ y. bind y (continued S ns f)) (resumed_none ns fs)

  pub ended : (ns : List Node) (fs : List Frame) (x : Units Tree) → x ≡ None → resumed S ns fs x ≡ None
  ended ns fs x e = ap (resumed S ns fs) e ∙ resumed_none ns fs

  -- frames that wait

  waits_grown : (old new : List Node) (f : Frame) (x : Units Tree) (left : ℕ) → Extends old new → IsFrame (length old) f → IsWaiting S old x left f → IsWaiting S new x left f
  waits_grown old new (Argument a) x left e h w = tt
  waits_grown old new (Function a) x left e h w = tt
  waits_grown old new Body x left e h w = tt
  waits_grown old new (Annotation a) x left e h w = tt
  waits_grown old new (Annotated a) x left e h w = tt
  waits_grown old new (Domain a) x left e h w = tt
  waits_grown old new (Codomain a) x left e h w = tt
  waits_grown old new (Conclude t b) x left e h w = (ap (normal_of S b) (e.keeps t.0 h) ∙ w.0, w.1)

  waits_less : (ns : List Node) (f : Frame) (x : Units Tree) (left left' : ℕ) → left' ≤ left → IsWaiting S ns x left f → IsWaiting S ns x left' f
  waits_less ns (Argument a) x left left' l w = tt
  waits_less ns (Function a) x left left' l w = tt
  waits_less ns Body x left left' l w = tt
  waits_less ns (Annotation a) x left left' l w = tt
  waits_less ns (Annotated a) x left left' l w = tt
  waits_less ns (Domain a) x left left' l w = tt
  waits_less ns (Codomain a) x left left' l w = tt
  waits_less ns (Conclude t b) x left left' l w = (w.0, omega (arith, l, w.1))

  waiting_grown : (old new : List Node) (fs : List Frame) (x : Units Tree) (left : ℕ) → Extends old new → AreFrames (length old) fs → AreWaiting S old x left fs → AreWaiting S new x left fs
  waiting_grown old new [] x left e h w = tt
  waiting_grown old new (f ∷ fs) x left e h w = (
    subst (λ (y : Units Tree). IsWaiting S new y left f) (flip (resumed_grown old new fs x e h.1)) (waits_grown old new f (resumed S old fs x) left e h.0 w.0),
    waiting_grown old new fs x left e h.1 w.1,
  )

  waiting_less : (ns : List Node) (fs : List Frame) (x : Units Tree) (left left' : ℕ) → left' ≤ left → AreWaiting S ns x left fs → AreWaiting S ns x left' fs
  waiting_less ns [] x left left' l w = tt
  waiting_less ns (f ∷ fs) x left left' l w = (waits_less ns f (resumed S ns fs x) left left' l w.0, waiting_less ns fs x left left' l w.1)

  waiting_pushed : (ns : List Node) (fs : List Frame) (f : Frame) (x : Units Tree) (left : ℕ) → IsWaiting S ns x left f → AreWaiting S ns (bind x (continued S ns f)) left fs
      → AreWaiting S ns x left (fs ++ (f ∷ []))
  waiting_pushed ns [] f x left h w = (h, tt)
  waiting_pushed ns (g ∷ fs) f x left h w =
      (subst (λ (y : Units Tree). IsWaiting S ns y left g) (flip (resumed_pushed ns fs f x)) w.0, waiting_pushed ns fs f x left h w.1)

  waiting_popped : (ns : List Node) (fs : List Frame) (f : Frame) (x : Units Tree) (left : ℕ) → AreWaiting S ns x left (fs ++ (f ∷ []))
      → AreWaiting S ns (bind x (continued S ns f)) left fs
  waiting_popped ns [] f x left w = tt
  waiting_popped ns (g ∷ fs) f x left w =
      (subst (λ (y : Units Tree). IsWaiting S ns y left g) (resumed_pushed ns fs f x) w.0, waiting_popped ns fs f x left w.1)

  pub waits_popped : (ns : List Node) (fs : List Frame) (f : Frame) (x : Units Tree) (left : ℕ) → AreWaiting S ns x left (fs ++ (f ∷ [])) → IsWaiting S ns x left f
  waits_popped ns [] f x left w = w.0
  waits_popped ns (g ∷ fs) f x left w = waits_popped ns fs f x left w.1

  -- what is under way

  pub way_pushed : (ns : List Node) (fs : List Frame) (f : Frame) (due x y : Units Tree) (left : ℕ) → IsFrame (length ns) f → IsWaiting S ns x left f → y ≡ bind x (continued S ns f)
      → IsResumed S ns due y left fs → IsResumed S ns due x left (fs ++ (f ∷ []))
  way_pushed ns fs f due x y left l h e w = record {
    frames = frames_pushed (length ns) fs f w.frames l;
    comes = w.comes ∙ ap (resumed S ns fs) e ∙ flip (resumed_pushed ns fs f x);
    waiting = waiting_pushed ns fs f x left h (subst (λ (z : Units Tree). AreWaiting S ns z left fs) e w.waiting);
  }

  pub way_popped : (ns : List Node) (fs : List Frame) (f : Frame) (due x : Units Tree) (left : ℕ) → IsResumed S ns due x left (fs ++ (f ∷ []))
      → IsResumed S ns due (bind x (continued S ns f)) left fs
  way_popped ns fs f due x left w = record {
    frames = frames_popped (length ns) fs f w.frames;
    comes = w.comes ∙ resumed_pushed ns fs f x;
    waiting = waiting_popped ns fs f x left w.waiting;
  }

  pub way_same : (ns : List Node) (fs : List Frame) (due x y : Units Tree) (left left' : ℕ) → x ≡ y → left' ≤ left → IsResumed S ns due x left fs → IsResumed S ns due y left' fs
  way_same ns fs due x y left left' e l w = record {
    frames = w.frames;
    comes = w.comes ∙ ap (resumed S ns fs) e;
    waiting = waiting_less ns fs y left left' l (subst (λ (z : Units Tree). AreWaiting S ns z left fs) e w.waiting);
  }

  pub way_grown : (old new : List Node) (fs : List Frame) (due x : Units Tree) (left : ℕ) → Extends old new → IsResumed S old due x left fs → IsResumed S new due x left fs
  way_grown old new fs due x left e w = record {
    frames = frames_grown (length old) (length new) fs e.longer w.frames;
    comes = w.comes ∙ flip (resumed_grown old new fs x e w.frames);
    waiting = waiting_grown old new fs x left e w.frames w.waiting;
  }

  pub way_due : (ns : List Node) (fs : List Frame) (due due' x : Units Tree) (left : ℕ) → due ≡ due' → IsResumed S ns due' x left fs → IsResumed S ns due x left fs
  way_due ns fs due due' x left e w = record { frames = w.frames; comes = e ∙ w.comes; waiting = w.waiting }

  -- a weak head form that is taken apart

  pub apart_argument : (ns : List Node) (fs : List Frame) (h : Tree) (f a : TermId) (due : Units Tree) (left : ℕ) → h ≡ apply (term ns f) (term ns a) → a.0 < length ns
      → IsResumed S ns due (each_normal (normal_of S) h left) left fs → IsResumed S ns due (each_normal (normal_of S) (term ns f) left) left (fs ++ (Argument a ∷ []))
  apart_argument ns fs h f a due left e l w = way_pushed ns fs (Argument a) due (each_normal (normal_of S) (term ns f) left) (each_normal (normal_of S) h left) left l tt
      (ap (λ t. each_normal (normal_of S) t left) e) w

  pub apart_body : (ns : List Node) (fs : List Frame) (h : Tree) (b : TermId) (due : Units Tree) (left : ℕ) → h ≡ bare (term ns b)
      → IsResumed S ns due (each_normal (normal_of S) h left) left fs → IsResumed S ns due (normal_of S left (term ns b)) left (fs ++ (Body ∷ []))
  apart_body ns fs h b due left e w = way_pushed ns fs Body due (normal_of S left (term ns b)) (each_normal (normal_of S) h left) left tt tt
      (ap (λ t. each_normal (normal_of S) t left) e) w

  pub apart_annotation : (ns : List Node) (fs : List Frame) (h : Tree) (a b : TermId) (due : Units Tree) (left : ℕ) → h ≡ annotated (term ns a) (term ns b) → b.0 < length ns
      → IsResumed S ns due (each_normal (normal_of S) h left) left fs → IsResumed S ns due (normal_of S left (term ns a)) left (fs ++ (Annotation b ∷ []))
  apart_annotation ns fs h a b due left e l w = way_pushed ns fs (Annotation b) due (normal_of S left (term ns a)) (each_normal (normal_of S) h left) left l tt
      (ap (λ t. each_normal (normal_of S) t left) e) w

  pub apart_domain : (ns : List Node) (fs : List Frame) (h : Tree) (a b : TermId) (due : Units Tree) (left : ℕ) → h ≡ product (term ns a) (term ns b) → b.0 < length ns
      → IsResumed S ns due (each_normal (normal_of S) h left) left fs → IsResumed S ns due (normal_of S left (term ns a)) left (fs ++ (Domain b ∷ []))
  apart_domain ns fs h a b due left e l w = way_pushed ns fs (Domain b) due (normal_of S left (term ns a)) (each_normal (normal_of S) h left) left l tt
      (ap (λ t. each_normal (normal_of S) t left) e) w

  leaf_normal : (t : Tree) (n : ℕ) → is_leaf t ≡ true → each_normal (normal_of S) t n ≡ Some (t, n)
  leaf_normal (apply f a) n e = cc
  leaf_normal (bare b) n e = cc
  leaf_normal (annotated a b) n e = cc
  leaf_normal (product a b) n e = cc
  leaf_normal t n e = refl

  pub apart_head : (ns : List Node) (fs : List Frame) (h : TermId) (due : Units Tree) (left : ℕ) → is_leaf (term ns h) ≡ true
      → IsResumed S ns due (each_normal (normal_of S) (term ns h) left) left fs → IsResumed S ns due (value_due ns h left) left fs
  apart_head ns fs h due left e w = way_same ns fs due (each_normal (normal_of S) (term ns h) left) (value_due ns h left) left left (leaf_normal (term ns h) left e) (omega arith) w

  -- what is asked for first is under way

  pub way_begins : (ns : List Node) (fs : List Frame) (x : Units Tree) (left : ℕ) → AreFrames (length ns) fs → AreWaiting S ns x left fs → IsResumed S ns (resumed S ns fs x) x left fs
  way_begins ns fs x left h w = record { frames = h; comes = refl; waiting = w }

  -- a normal form

  by_weak : (n : ℕ) (t : Tree) → 0 < n → normal_of S n t ≡ bind (whnf_of S (n - 1) t) (λ v m. each_normal (normal_of S) v m)
  by_weak zero t h = absurd (omega arith)
  by_weak (suc n) t h = normal_is S n t ∙ ap (λ m. bind (whnf_of S m t) (λ v j. each_normal (normal_of S) v j)) (omega arith)

  pub none_left : (t : Tree) → normal_of S 0 t ≡ None
  none_left t = refl

  pub weak_ends : (n : ℕ) (t : Tree) → 0 < n → whnf_of S (n - 1) t ≡ None → normal_of S n t ≡ None
  weak_ends n t h e = by_weak n t h ∙ ap (λ x. bind x (λ v m. each_normal (normal_of S) v m)) e

  weak_goes : (n m : ℕ) (t v : Tree) → 0 < n → whnf_of S (n - 1) t ≡ Some (v, m) → normal_of S n t ≡ each_normal (normal_of S) v m
  weak_goes n m t v h e = by_weak n t h ∙ ap (λ x. bind x (λ w j. each_normal (normal_of S) w j)) e

  alone : (x : Units Tree) → x ≡ bind x (λ v n. Some (v, n))
  alone None = refl
  alone (Some p) = refl

  -- the weak head form of a part is there: what waits for the part's own parts is a frame that concludes it
  pub way_concluding : (old new : List Node) (fs : List Frame) (due : Units Tree) (t v : TermId) (n m : ℕ) → 0 < n → m ≤ n → t.0 < length old → Extends old new
      → whnf_of S (n - 1) (term old t) ≡ Some (term new v, m) → IsResumed S old due (normal_of S n (term old t)) n fs
      → IsResumed S new due (each_normal (normal_of S) (term new v) m) m (fs ++ (Conclude t n ∷ []))
  way_concluding old new fs due t v n m p l b e h w =
      let q = weak_goes n m (term old t) (term new v) p h in
      way_pushed new fs (Conclude t n) due (each_normal (normal_of S) (term new v) m) (each_normal (normal_of S) (term new v) m) m (omega (arith, e.longer, b))
      (ap (normal_of S n) (e.keeps t.0 b) ∙ q, l) (alone (each_normal (normal_of S) (term new v) m))
      (way_same new fs due (normal_of S n (term old t)) (each_normal (normal_of S) (term new v) m) n m q l (way_grown old new fs due (normal_of S n (term old t)) n e w))

  -- a normal form that is remembered

  pub way_found : (ns : List Node) (fs : List Frame) (due : Units Tree) (t v : TermId) (n k : ℕ) → Takes (λ m. normal_of S m (term ns t)) (term ns v) k → k ≤ n
      → IsResumed S ns due (normal_of S n (term ns t)) n fs → IsResumed S ns due (value_due ns v (n - k)) (n - k) fs
  way_found ns fs due t v n k h l w = way_same ns fs due (normal_of S n (term ns t)) (value_due ns v (n - k)) n (n - k) (h.suffices n l) (omega arith) w

  pub normal_costs : (k : ℕ) (t v : Tree) → Takes (λ m. normal_of S m t) v k → 0 < k
  normal_costs zero t v h = absurd (none_some (h.suffices 0 (omega arith)))
    where
      none_some : {x : Tree × ℕ} → None ≡ Some x → ⊥
      none_some e = cc
  normal_costs (suc k) t v h = omega arith

  -- a part has its normal form, and a node is made of it
  pub way_built : (old new : List Node) (fs : List Frame) (due : Units Tree) (t : Tree) (v : TermId) (n : ℕ) → Extends old new → term new v ≡ t
      → IsResumed S old due (Some (t, n)) n fs → IsResumed S new due (value_due new v n) n fs
  way_built old new fs due t v n e q w = way_same new fs due (Some (t, n)) (value_due new v n) n n (ap (λ (u : Tree). Some (u, n)) (flip q)) (omega arith)
      (way_grown old new fs due (Some (t, n)) n e w)

  -- what is made of what waits, whatever it is due to

  pub normal_open : (ns : List Node) (fs : List Frame) (due x : Units Tree) (left : ℕ) → IsResumed S ns due x left fs → IsResumed S ns (resumed S ns fs x) x left fs
  normal_open ns fs due x left w = record { frames = w.frames; comes = refl; waiting = w.waiting }

  pub normal_begins : (ns : List Node) (x : Units Tree) (left : ℕ) → IsResumed S ns x x left []
  normal_begins ns x left = record { frames = tt; comes = refl; waiting = tt }

  pub open_part_due : (ns : List Node) (fs : List Frame) (due due' : Units Tree) (p : OpenPart) → due ≡ due' → IsOpenPart S ns due' fs p → IsOpenPart S ns due fs p
  open_part_due ns fs due due' p e h = record { way = way_due ns fs due due' (normal_of S p.before (term ns p.part)) p.before e h.way; part = h.part; some = h.some }

  -- a part that is met

  pub met_part : (ns : List Node) (fs : List Frame) (due : Units Tree) (t v : TermId) (n left : ℕ) → normal_of S n (term ns t) ≡ value_due ns v left → left ≤ n
      → IsResumed S ns due (normal_of S n (term ns t)) n fs → IsResumed S ns due (value_due ns v left) left fs
  met_part ns fs due t v n left e l w = way_same ns fs due (normal_of S n (term ns t)) (value_due ns v left) n left e l w

  pub part_opens : (ns : List Node) (fs : List Frame) (due : Units Tree) (t : TermId) (n left : ℕ) → t.0 < length ns → left + 1 ≡ n → IsResumed S ns due (normal_of S n (term ns t)) n fs
      → IsOpenPart S ns due fs (record { part = t; before = n })
  part_opens ns fs due t n left l e w = record { way = w; part = l; some = omega (arith, e) }

  -- the weak head form of the part is there
  pub part_weak : (old new : List Node) (fs : List Frame) (due : Units Tree) (p : OpenPart) (v : TermId) (m : ℕ) → m ≤ p.before → Extends old new
      → whnf_of S (p.before - 1) (term old p.part) ≡ Some (term new v, m) → IsOpenPart S old due fs p
      → IsResumed S new due (each_normal (normal_of S) (term new v) m) m (fs ++ (Conclude p.part p.before ∷ []))
  part_weak old new fs due p v m l e h o = way_concluding old new fs due p.part v p.before m o.some l o.part e h o.way

  -- a frame goes on, once its part has the normal form `v`

  pub argument_next : (ns : List Node) (fs : List Frame) (due : Units Tree) (v a : TermId) (left : ℕ) → v.0 < length ns
      → IsResumed S ns due (value_due ns v left) left (fs ++ (Argument a ∷ [])) → IsResumed S ns due (normal_of S left (term ns a)) left (fs ++ (Function v ∷ []))
  argument_next ns fs due v a left l w = way_pushed ns fs (Function v) due (normal_of S left (term ns a)) (continued S ns (Argument a) (term ns v) left) left l tt refl
      (way_popped ns fs (Argument a) due (value_due ns v left) left w)

  pub annotation_next : (ns : List Node) (fs : List Frame) (due : Units Tree) (v b : TermId) (left : ℕ) → v.0 < length ns
      → IsResumed S ns due (value_due ns v left) left (fs ++ (Annotation b ∷ [])) → IsResumed S ns due (normal_of S left (term ns b)) left (fs ++ (Annotated v ∷ []))
  annotation_next ns fs due v b left l w = way_pushed ns fs (Annotated v) due (normal_of S left (term ns b)) (continued S ns (Annotation b) (term ns v) left) left l tt refl
      (way_popped ns fs (Annotation b) due (value_due ns v left) left w)

  pub domain_next : (ns : List Node) (fs : List Frame) (due : Units Tree) (v b : TermId) (left : ℕ) → v.0 < length ns
      → IsResumed S ns due (value_due ns v left) left (fs ++ (Domain b ∷ [])) → IsResumed S ns due (normal_of S left (term ns b)) left (fs ++ (Codomain v ∷ []))
  domain_next ns fs due v b left l w = way_pushed ns fs (Codomain v) due (normal_of S left (term ns b)) (continued S ns (Domain b) (term ns v) left) left l tt refl
      (way_popped ns fs (Domain b) due (value_due ns v left) left w)

  -- a frame of which a node is made
  pub built_next : (old new : List Node) (fs : List Frame) (frame : Frame) (due : Units Tree) (v w : TermId) (t : Tree) (left : ℕ) → continued S old frame (term old v) left ≡ Some (t, left)
      → Extends old new → term new w ≡ t → IsResumed S old due (value_due old v left) left (fs ++ (frame ∷ [])) → IsResumed S new due (value_due new w left) left fs
  built_next old new fs frame due v w t left c e q g = way_built old new fs due t w left e q
      (way_same old fs due (continued S old frame (term old v) left) (Some (t, left)) left left c (omega arith) (way_popped old fs frame due (value_due old v left) left g))

  pub concluded_next : (ns : List Node) (fs : List Frame) (due : Units Tree) (v t : TermId) (b left : ℕ)
      → IsResumed S ns due (value_due ns v left) left (fs ++ (Conclude t b ∷ [])) → IsResumed S ns due (value_due ns v left) left fs
  concluded_next ns fs due v t b left w = way_popped ns fs (Conclude t b) due (value_due ns v left) left w
