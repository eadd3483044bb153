-- What a term mentions, by the term that it becomes.
use Rattle.std.specs.Prelude.{eqb, nat_lt, replicate, length, ◌&&◌, ◌||◌, ◌↔◌, not, Bool, true, false, IsTrue, if◌then◌else◌}
use Rattle.std.proofs.Common.{List, [], ◌∷◌, ◌++◌, ℕ, zero, suc, ◌+◌, ◌≡◌, ◌≢◌, ◌<◌, Option, Some, None, refl, ap, ◌∙◌, sym as flip, subst as along, arith}
use Rattle.std.proofs.lemmas.Bool.{eqb-true, eq-eqb}
use Rattle.dk_model.specs.Trees.{Tree, star, kind, symbol, variable, rule_variable, apply, bare, annotated, product}
use Rattle.dk_model.specs.Substitution.{shift}
use Rattle.dk_model.specs.Captures.{capture_at, filled}
use Rattle.dk_model.specs.Bindings.{is_closed_at, mentions_rule_variable}
use Rattle.shared_term.specs.declared.id.TermId.{TermId}
use Rattle.shared_term.specs.Pools.{Node, term, Extends, Moves}
use Rattle.shared_term.specs.Changes.{AreCaptures, captured_terms}

both_true : (a b : Bool) → a ≡ true → b ≡ true → (a && b) ≡ true
both_true a b e f = rw (e, f) refl

first_of : (a b : Bool) → (a && b) ≡ true → (a ≡ true) × (b ≡ true)
first_of true b e = (refl, e)
first_of false b e = cc

-- ---- variables that aren't bound

raised_same : (c : ℕ) (t : Tree) → is_closed_at c t ≡ true → shift c 1 t ≡ t
raised_same c star e = refl
raised_same c kind e = refl
raised_same c (symbol k) e = refl
raised_same c (variable k) e = rw e refl
raised_same c (rule_variable k) e = refl
raised_same c (apply f a) e = let i : _ = first_of (is_closed_at c f) (is_closed_at c a) e in rw (raised_same c f i.0, raised_same c a i.1) refl
raised_same c (bare b) e = ap bare (raised_same (c + 1) b e)
raised_same c (annotated n b) e = let i : _ = first_of (is_closed_at c n) (is_closed_at (c + 1) b) e in rw (raised_same c n i.0, raised_same (c + 1) b i.1) refl
raised_same c (product a b) e = let i : _ = first_of (is_closed_at c a) (is_closed_at (c + 1) b) e in rw (raised_same c a i.0, raised_same (c + 1) b i.1) refl

variable_raised : (c k : ℕ) (b : Bool) → nat_lt k c ≡ b → variable (if b then k else k + 1) ≡ variable k → b ≡ true
variable_raised c k true e h = refl
variable_raised c k false e h = let f : k + 1 ≡ k = cc in absurd (omega arith)

same_raised : (c : ℕ) (t : Tree) → shift c 1 t ≡ t → is_closed_at c t ≡ true
same_raised c star e = refl
same_raised c kind e = refl
same_raised c (symbol k) e = refl
same_raised c (variable k) e = variable_raised c k (nat_lt k c) refl e
same_raised c (rule_variable k) e = refl
same_raised c (apply f a) e = both_true (is_closed_at c f) (is_closed_at c a) (same_raised c f cc) (same_raised c a cc)
same_raised c (bare b) e = same_raised (c + 1) b cc
same_raised c (annotated n b) e = both_true (is_closed_at c n) (is_closed_at (c + 1) b) (same_raised c n cc) (same_raised (c + 1) b cc)
same_raised c (product a b) e = both_true (is_closed_at c a) (is_closed_at (c + 1) b) (same_raised c a cc) (same_raised (c + 1) b cc)

told : (P : Type 0) (b x : Bool) → (IsTrue b ↔ P) → (P → x ≡ true) → (x ≡ true → P) → b ≡ x
told P true x h f g = flip (f (h.0 refl))
told P false true h f g = let q : false ≡ true = h.1 (g refl) in cc
told P false false h f g = refl

-- a test whether the raised term is the term tells whether this is closed
pub raised_tells : (b : Bool) (old new : List Node) (id raised : TermId) → id.0 < length old → Extends old new
    → Moves (shift 0 1) old new id raised → (IsTrue b ↔ (term new raised ≡ term new id)) → b ≡ is_closed_at 0 (term old id)
raised_tells b old new id raised l x m h = let s : term new id ≡ term old id = x.keeps id.0 l in
    told (term new raised ≡ term new id) b (is_closed_at 0 (term old id)) h
    (λ q. same_raised 0 (term old id) (flip m.is ∙ (q ∙ s))) (λ q. m.is ∙ (raised_same 0 (term old id) q ∙ flip s))

-- ---- rule variables

abbrev alone : ℕ → List (Option Tree)
alone k = replicate k None ++ Some star ∷ []

alone_here : (k : ℕ) → capture_at (alone k) k ≡ Some star
alone_here zero = refl
alone_here (suc k) = alone_here k

alone_other : (k j : ℕ) → j ≢ k → capture_at (alone k) j ≡ None
alone_other zero zero n = absurd (n refl)
alone_other zero (suc j) n = refl
alone_other (suc k) zero n = refl
alone_other (suc k) (suc j) n = alone_other k j (λ e. n (ap suc e))

none_of : (a b : Bool) → (a || b) ≡ false → (a ≡ false) × (b ≡ false)
none_of true b e = cc
none_of false b e = (refl, e)

neither : (a b : Bool) → a ≡ false → b ≡ false → (a || b) ≡ false
neither a b e f = rw (e, f) refl

module _ (k : ℕ) where
  other_filled : (j d : ℕ) (b : Bool) → eqb j k ≡ b → b ≡ false → filled (alone k) d (rule_variable j) ≡ rule_variable j
  other_filled j d true e h = cc
  other_filled j d false e h = let other : capture_at (alone k) j ≡ None = alone_other k j (λ q. let f : true ≡ false = flip (eq-eqb j k q) ∙ e in cc) in
      along (λ (o : Option Tree). elim o [ None ↦ rule_variable j | Some t ↦ shift 0 d t ] ≡ rule_variable j) (flip other) refl

  here_filled : (j d : ℕ) (b : Bool) → eqb j k ≡ b → filled (alone k) d (rule_variable j) ≡ rule_variable j → b ≡ false
  here_filled j d true e h =
      let here : filled (alone k) d (rule_variable k) ≡ star = along (λ (o : Option Tree). elim o [ None ↦ rule_variable k | Some t ↦ shift 0 d t ] ≡ star) (flip (alone_here k)) refl in
      let q : filled (alone k) d (rule_variable j) ≡ star = along (λ (i : ℕ). filled (alone k) d (rule_variable i) ≡ star) (flip (eqb-true j k e)) here in let f : star ≡ rule_variable j = flip q ∙ h in cc
  here_filled j d false e h = refl

  filled_same : (d : ℕ) (t : Tree) → mentions_rule_variable k t ≡ false → filled (alone k) d t ≡ t
  filled_same d star e = refl
  filled_same d kind e = refl
  filled_same d (symbol j) e = refl
  filled_same d (variable j) e = refl
  filled_same d (rule_variable j) e = other_filled j d (eqb j k) refl e
  filled_same d (apply f a) e = let i : _ = none_of (mentions_rule_variable k f) (mentions_rule_variable k a) e in rw (filled_same d f i.0, filled_same d a i.1) refl
  filled_same d (bare b) e = ap bare (filled_same (d + 1) b e)
  filled_same d (annotated n b) e = let i : _ = none_of (mentions_rule_variable k n) (mentions_rule_variable k b) e in rw (filled_same d n i.0, filled_same (d + 1) b i.1) refl
  filled_same d (product a b) e = let i : _ = none_of (mentions_rule_variable k a) (mentions_rule_variable k b) e in rw (filled_same d a i.0, filled_same (d + 1) b i.1) refl

  same_filled : (d : ℕ) (t : Tree) → filled (alone k) d t ≡ t → mentions_rule_variable k t ≡ false
  same_filled d star e = refl
  same_filled d kind e = refl
  same_filled d (symbol j) e = refl
  same_filled d (variable j) e = refl
  same_filled d (rule_variable j) e = here_filled j d (eqb j k) refl e
  same_filled d (apply f a) e = neither (mentions_rule_variable k f) (mentions_rule_variable k a) (same_filled d f cc) (same_filled d a cc)
  same_filled d (bare b) e = same_filled (d + 1) b cc
  same_filled d (annotated n b) e = neither (mentions_rule_variable k n) (mentions_rule_variable k b) (same_filled d n cc) (same_filled (d + 1) b cc)
  same_filled d (product a b) e = neither (mentions_rule_variable k a) (mentions_rule_variable k b) (same_filled d a cc) (same_filled (d + 1) b cc)

alone_within : (ns : List Node) (k : ℕ) (i : TermId) → i.0 < length ns → AreCaptures (length ns) (replicate k None ++ Some i ∷ [])
alone_within ns zero i l = (l, tt)
alone_within ns (suc k) i l = alone_within ns k i l

pub only_within : (ns : List Node) (k : ℕ) (i : TermId) (cs : List (Option TermId)) → i.0 < length ns → cs ≡ replicate k None ++ Some i ∷ []
    → AreCaptures (length ns) cs
only_within ns k i cs l e = along (AreCaptures (length ns)) (flip e) (alone_within ns k i l)

only_terms : (ns : List Node) (k : ℕ) (i : TermId) → term ns i ≡ star → captured_terms ns (replicate k None ++ Some i ∷ []) ≡ alone k
only_terms ns zero i e = ap (λ (t : Tree). Some t ∷ []) e
only_terms ns (suc k) i e = ap (λ (os : List (Option Tree)). None ∷ os) (only_terms ns k i e)

told_not : (P : Type 0) (b x : Bool) → (IsTrue b ↔ P) → (P → x ≡ false) → (x ≡ false → P) → not b ≡ x
told_not P true x h f g = flip (f (h.0 refl))
told_not P false true h f g = refl
told_not P false false h f g = let q : false ≡ true = h.1 (g refl) in cc

-- a test whether the filled term is the term tells whether the rule variable stands in it
pub only_tells : (b : Bool) (old mid new : List Node) (k : ℕ) (i id r : TermId) (cs : List (Option TermId)) → id.0 < length old
    → Extends old mid → Extends mid new → term mid i ≡ star → cs ≡ replicate k None ++ Some i ∷ []
    → Moves (filled (captured_terms mid cs) 0) mid new id r → (IsTrue b ↔ (term new r ≡ term new id))
    → not b ≡ mentions_rule_variable k (term old id)
only_tells b old mid new k i id r cs l x y s c m h =
    let t : Tree = term old id in
    let kept : term mid id ≡ t = x.keeps id.0 l in
    let stays : term new id ≡ t = y.keeps id.0 (omega arith) ∙ kept in
    let q : term new r ≡ filled (alone k) 0 t = m.is
    ∙ (ap (λ (os : List (Option Tree)). filled os 0 (term mid id)) (ap (captured_terms mid) c ∙ only_terms mid k i s) ∙ ap (filled (alone k) 0) kept) in
    told_not (term new r ≡ term new id) b (mentions_rule_variable k t) h
    (λ e. same_filled k 0 t (flip q ∙ (e ∙ stays))) (λ e. q ∙ (filled_same k 0 t e ∙ flip stays))
