-- Frames that wait: one more, one fewer, and in a pool that has grown; and turns by what is found.
use Rattle.std.proofs.Common.{◌≡◌, ℕ, ◌+◌, ◌<◌, List, [], ◌∷◌, ◌++◌, length, Option, Some, None, refl, ap, sym, subst, ◌∙◌, arith}
use Rattle.dk_model.specs.Trees.{Tree, star, kind, symbol, variable, rule_variable, apply, bare, annotated, product}
use Rattle.shared_term.specs.declared.id.TermId.{TermId}
use Rattle.shared_term.specs.declared.change.Change.{Change}
use Rattle.shared_term.specs.declared.change.Change.TheVariants.{Shift, Substitute, SubstituteAll, Erase, Fill, Rename, Raise}
use Rattle.shared_term.specs.declared.change.Goal.{Goal}
use Rattle.shared_term.specs.declared.change.Given.{Given}
use Rattle.shared_term.specs.declared.change.Pair.{Pair}
use Rattle.shared_term.specs.declared.change.Frame.{Frame}
use Rattle.shared_term.specs.declared.change.Frame.TheVariants.{First, Second, Body}
use Rattle.shared_term.specs.declared.change.State.{State}
use Rattle.shared_term.specs.declared.change.State.TheVariants.{Down, Up}
use Rattle.shared_term.specs.declared.entering.Step.TheVariants.{Answer, Instead, Inside, Parts}
use Rattle.shared_term.specs.Pools.{Node, term, Extends}
use Rattle.shared_term.specs.Changes.{AreCaptures, AreTerms, IsKnown, IsAsked, wanted, joined, under, part}
use Rattle.shared_term.specs.Walks.{goal_of, completed, HasParts, Waits, Wait, Stands, weight, captures_weight, terms_weight, more, frame_weight, frames_weight, IsStep, Turns}
use Rattle.shared_term.proofs.Remembering.{asked_grown, wanted_grown}

module _ (ns : List Node) (g : Given) where
  pub wait_push : (fs : List Frame) (root y z : Tree) (f : Frame) → Wait ns g fs root y → y ≡ wanted ns g (goal_of ns g f) → Waits ns g f z → Wait ns g (fs ++ f ∷ []) root z
  wait_push [] root y z f w e v = (w ∙ e, z, v, refl)
  wait_push (h ∷ fs) root y z f w e v = (w.0, w.1, w.2, wait_push fs w.1 y z f w.3 e v)

  pub wait_pop : (fs : List Frame) (root z : Tree) (f : Frame) → Wait ns g (fs ++ f ∷ []) root z → Waits ns g f z × Wait ns g fs root (wanted ns g (goal_of ns g f))
  wait_pop [] root z f w = (subst (Waits ns g f) w.3 w.2, w.0)
  wait_pop (h ∷ fs) root z f w = let r = wait_pop fs w.1 z f w.3 in (r.0, (w.0, w.1, w.2, r.1))

  weight_push : (fs : List Frame) (f : Frame) → frames_weight ns g (fs ++ f ∷ []) ≡ frames_weight ns g fs + frame_weight ns g f
  weight_push [] f = omega arith
  weight_push (h ∷ fs) f = omega (arith, weight_push fs f)

  some_weight : (c : ℕ) (t : Tree) → 0 < weight ns g c t
  some_weight c star = omega arith
  some_weight c kind = omega arith
  some_weight c (symbol k) = omega arith
  some_weight c (variable k) = omega arith
  some_weight c (rule_variable k) = omega arith
  some_weight c (apply f a) = omega arith
  some_weight c (bare b) = omega arith
  some_weight c (annotated n b) = omega arith
  some_weight c (product a b) = omega arith

  -- the topmost frame, where a term has become what it waits for
  pub waits_up : (root : Tree) (fs : List Frame) (f : Frame) (id : TermId) → Stands ns g root (fs ++ f ∷ []) (Up id) → Waits ns g f (term ns id)
  waits_up root fs f id s = (wait_pop fs root (term ns id) f s.waits).0

  pub second_turn : (root : Tree) (fs : List Frame) (goal : Goal) (pair : Pair) (second id : TermId) (depth : ℕ) → depth ≡ under pair goal.depth
      → Stands ns g root (fs ++ First goal pair second ∷ []) (Up id)
      → Turns ns ns g root (fs ++ First goal pair second ∷ []) (Up id) (fs ++ Second goal pair id ∷ []) (Down (part goal second depth))
  second_turn root fs goal pair second id depth e s =
      let p = wait_pop fs root (term ns id) (First goal pair second) s.waits in
      let v : Waits ns g (Second goal pair id) (wanted ns g (part goal second depth)) = record {
        asked = p.0.asked;
        parts = s.standing;
        gets = p.0.gets ∙ ap (λ d. joined pair (term ns id) (wanted ns g (part goal second d))) (sym e);
      } in record {
        stands = record {
          standing = (p.0.parts, p.0.asked.1);
          waits = wait_push fs root (wanted ns g goal) _ (Second goal pair id) p.1 refl v;
        };
        fewer = omega (arith, weight_push fs (First goal pair second), weight_push fs (Second goal pair id));
      }

  pub answer_turn : (root : Tree) (fs : List Frame) (goal : Goal) (id : TermId) → IsStep ns g goal (Answer id) → Stands ns g root fs (Down goal)
      → Turns ns ns g root fs (Down goal) fs (Up id)
  answer_turn root fs goal id e s = record {
    stands = record { standing = e.0; waits = subst (λ (y : Tree). Wait ns g fs root y) (sym e.1) s.waits };
    fewer = omega (arith, some_weight (more ns g goal.change) (term ns goal.id));
  }

  pub instead_turn : (root : Tree) (fs : List Frame) (goal other : Goal) → IsStep ns g goal (Instead other) → Stands ns g root fs (Down goal)
      → Turns ns ns g root fs (Down goal) fs (Down other)
  instead_turn root fs goal other e s = record {
    stands = record { standing = e.0; waits = subst (λ (y : Tree). Wait ns g fs root y) e.1 s.waits };
    fewer = omega (arith, e.2);
  }

  pub inside_turn : (root : Tree) (fs : List Frame) (goal : Goal) (body : TermId) (depth : ℕ) → depth ≡ goal.depth + 1 → IsStep ns g goal (Inside body) → Stands ns g root fs (Down goal)
      → Turns ns ns g root fs (Down goal) (fs ++ Body goal ∷ []) (Down (part goal body depth))
  inside_turn root fs goal body depth u e s =
      let v : Waits ns g (Body goal) (wanted ns g (part goal body depth)) = record {
        asked = s.standing;
        parts = tt;
        gets = e.1 ∙ ap (λ d. bare (wanted ns g (part goal body d))) (sym u);
      } in record {
        stands = record { standing = (e.0, s.standing.1); waits = wait_push fs root _ _ (Body goal) s.waits refl v };
        fewer = omega (arith, weight_push fs (Body goal), e.2);
      }

  pub parts_turn : (root : Tree) (fs : List Frame) (goal : Goal) (pair : Pair) (x y : TermId) → IsStep ns g goal (Parts pair x y) → Stands ns g root fs (Down goal)
      → Turns ns ns g root fs (Down goal) (fs ++ First goal pair y ∷ []) (Down (part goal x goal.depth))
  parts_turn root fs goal pair x y e s =
      let v : Waits ns g (First goal pair y) (wanted ns g (part goal x goal.depth)) = record { asked = s.standing; parts = e.1; gets = e.2 } in record {
        stands = record { standing = (e.0, s.standing.1); waits = wait_push fs root _ _ (First goal pair y) s.waits refl v };
        fewer = omega (arith, weight_push fs (First goal pair y), e.3);
      }

module _ (old new : List Node) (g : Given) (e : Extends old new) where
  completed_grown : (f : Frame) (y : Tree) → IsAsked (length old) g (goal_of old g f) → HasParts old g f → completed new g f y ≡ completed old g f y
  completed_grown (First goal pair second) y a h = ap (λ t. joined pair y t) (wanted_grown old new g (part goal second (under pair goal.depth)) e (h, a.1))
  completed_grown (Second goal pair first) y a h = ap (λ t. joined pair t y) (e.keeps first.0 h)
  completed_grown (Body goal) y a h = refl

  same_goal : (f : Frame) → goal_of new g f ≡ goal_of old g f
  same_goal (First goal pair second) = refl
  same_goal (Second goal pair first) = refl
  same_goal (Body goal) = refl

  parts_grown : (f : Frame) → HasParts old g f → HasParts new g f
  parts_grown (First goal pair second) h = omega (arith, e.longer, h)
  parts_grown (Second goal pair first) h = omega (arith, e.longer, h)
  parts_grown (Body goal) h = tt

  wanted_of : (f : Frame) → IsAsked (length old) g (goal_of old g f) → wanted new g (goal_of new g f) ≡ wanted old g (goal_of old g f)
  wanted_of f a = ap (wanted new g) (same_goal f) ∙ wanted_grown old new g (goal_of old g f) e a

  waits_grown : (f : Frame) (y : Tree) → Waits old g f y → Waits new g f y
  waits_grown f y w = record {
    asked = subst (λ (x : Goal). IsAsked (length new) g x) (sym (same_goal f)) (asked_grown old new g (goal_of old g f) e w.asked);
    parts = parts_grown f w.parts;
    gets = wanted_of f w.asked ∙ w.gets ∙ sym (completed_grown f y w.asked w.parts);
  }

  wait_grown : (fs : List Frame) (root y : Tree) → Wait old g fs root y → Wait new g fs root y
  wait_grown [] root y w = w
  wait_grown (f ∷ fs) root y w = (w.0 ∙ sym (wanted_of f w.2.asked), w.1, waits_grown f w.1 w.2, wait_grown fs w.1 y w.3)

  same_weight : (c : ℕ) (t : Tree) → weight new g c t ≡ weight old g c t
  same_weight c star = refl
  same_weight c kind = refl
  same_weight c (symbol k) = refl
  same_weight c (variable k) = refl
  same_weight c (rule_variable k) = refl
  same_weight c (apply f a) = omega (arith, same_weight c f, same_weight c a)
  same_weight c (bare b) = omega (arith, same_weight c b)
  same_weight c (annotated n b) = omega (arith, same_weight c n, same_weight c b)
  same_weight c (product a b) = omega (arith, same_weight c a, same_weight c b)

  captures_grown : (cs : List (Option TermId)) → AreCaptures (length old) cs → captures_weight new g cs ≡ captures_weight old g cs
  captures_grown [] h = refl
  captures_grown (None ∷ cs) h = captures_grown cs h
  captures_grown (Some x ∷ cs) h =
      let k : weight new g 0 (term new x) ≡ weight old g 0 (term old x) = ap (weight new g 0) (e.keeps x.0 h.0) ∙ same_weight 0 (term old x) in
      omega (arith, k, captures_grown cs h.1)

  terms_grown : (us : List TermId) → AreTerms (length old) us → terms_weight new g us ≡ terms_weight old g us
  terms_grown [] h = refl
  terms_grown (u ∷ us) h =
      let k : weight new g 0 (term new u) ≡ weight old g 0 (term old u) = ap (weight new g 0) (e.keeps u.0 h.0) ∙ same_weight 0 (term old u) in
      omega (arith, k, terms_grown us h.1)

  more_grown : (c : Change) → IsKnown (length old) g c → more new g c ≡ more old g c
  more_grown (Shift by) h = refl
  more_grown (Substitute u) h = ap (weight new g 0) (e.keeps u.0 h) ∙ same_weight 0 (term old u)
  more_grown SubstituteAll h = terms_grown g.terms.now h
  more_grown Erase h = refl
  more_grown Fill h = captures_grown g.captures.now h
  more_grown Rename h = refl
  more_grown Raise h = refl

  weight_grown : (c : Change) (x : TermId) → IsKnown (length old) g c → x.0 < length old → weight new g (more new g c) (term new x) ≡ weight old g (more old g c) (term old x)
  weight_grown c x h l = (λ i. weight new g (more_grown c h i) (e.keeps x.0 l i)) ∙ same_weight (more old g c) (term old x)

  frame_grown : (f : Frame) → IsAsked (length old) g (goal_of old g f) → HasParts old g f → frame_weight new g f ≡ frame_weight old g f
  frame_grown (First goal pair second) a h = ap (λ n. n + 2) (weight_grown goal.change second a.1 h)
  frame_grown (Second goal pair first) a h = refl
  frame_grown (Body goal) a h = refl

  frames_grown : (fs : List Frame) (root y : Tree) → Wait old g fs root y → frames_weight new g fs ≡ frames_weight old g fs
  frames_grown [] root y w = refl
  frames_grown (f ∷ fs) root y w = omega (arith, frame_grown f w.2.asked w.2.parts, frames_grown fs w.1 y w.3)

  pub stands_grown : (root : Tree) (fs : List Frame) (goal : Goal) → Stands old g root fs (Down goal) → Stands new g root fs (Down goal)
  stands_grown root fs goal s = record {
    standing = asked_grown old new g goal e s.standing;
    waits = subst (λ (y : Tree). Wait new g fs root y) (sym (wanted_grown old new g goal e s.standing)) (wait_grown fs root (wanted old g goal) s.waits);
  }

  -- a turn in the larger pool is one from the smaller
  pub turn_from : (root : Tree) (fs gs : List Frame) (goal : Goal) (t : State) → Stands old g root fs (Down goal) → Turns new new g root fs (Down goal) gs t
      → Turns old new g root fs (Down goal) gs t
  turn_from root fs gs goal t s r = record {
    stands = r.stands;
    fewer = omega (arith, r.fewer, frames_grown fs root _ s.waits, weight_grown goal.change goal.id s.standing.1 s.standing.0);
  }

  -- the topmost frame has got what it waits for
  pub made_turn : (root : Tree) (fs : List Frame) (f : Frame) (id made : TermId) → 0 < frame_weight old g f → Stands old g root (fs ++ f ∷ []) (Up id)
      → made.0 < length new → term new made ≡ wanted old g (goal_of old g f) → Turns old new g root (fs ++ f ∷ []) (Up id) fs (Up made)
  made_turn root fs f id made l s k u =
      let p = wait_pop old g fs root (term old id) f s.waits in record {
        stands = record { standing = k; waits = subst (λ (y : Tree). Wait new g fs root y) (sym u) (wait_grown fs root _ p.1) };
        fewer = omega (arith, l, frames_grown fs root _ p.1, weight_push old g fs f);
      }
