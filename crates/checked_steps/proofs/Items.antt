-- Items in the place of evaluation: what each gives has its meaning.
use Rattle.std.specs.Prelude.{Bool, true, false, if◌then◌else◌}
use Rattle.std.proofs.Common.{List, [], ◌∷◌, ◌++◌, ◌≡◌, Option, Some, None, refl, ap, sym as flip, subst as along}
use Rattle.dk_model.specs.Trees.{Tree, rule_variable}
use Rattle.dk_model.specs.Substitution.{equal}
use Rattle.dk_model.specs.Signatures.{PlainSignature}
use Rattle.dk_model.specs.TypingOver.{answer}
use Rattle.dk_model.specs.Scoping.{PlainCommand, declare, rule_command, query}
use Rattle.dk_model.specs.Bindings.{Bindings, under, bound}
use Rattle.dk_model.specs.Solving.{Equation, binds, parts, clash, nothing, equation_of}
use Rattle.dk_model.specs.Verdicts.{verdict}
use Rattle.typing_model.specs.Steps.{ReducesTo, AreJoinable}
use Rattle.typing_model.specs.Derivations.{Equations, HasDerivation, Binds, left_binds, right_binds, Resolves, resolved, dropped, replaced, binding}
use Rattle.typing_model.specs.Laws.{Reduces}
use Rattle.typing_model.specs.Conditions.{HasNoAnnotations}
use Rattle.typing_model.proofs.Commands.{accepted_derives}
use Rattle.checked_steps.proofs.Equations.{BindsSide, binds_left, binds_right, IsEquation, equation_is}
use Rattle.checked_steps.specs.Items.{ItemSteps, ItemWord, same_now, left_bound, right_bound, in_parts, let_go, Item, reduction, joining, equation}
use Rattle.checked_steps.specs.Taken.{Solved, both_same, steps_taken, if_bound, if_parts, if_nothing, is_left, word_taken, equation_taken}
use Rattle.checked_steps.specs.Checked.{with_rest, next_reduction, next_joining, solving_on, solutions_taken, next_solution, by_items, IsChecked}
use Rattle.checked_steps.proofs.Steps.{from_and_then, steps_sound, joined_is}

from_rest : {A : Type 0} (items : List Item) (o : Option A) (a : A) (m : List Item) → ◌≡◌ {A = Option (A × List Item)} (with_rest items o) (Some (a, m)) → o ≡ Some a
from_rest items None a m e = cc
from_rest {A} items (Some b) a m e = let q : ◌≡◌ {A = A × List Item} (b, items) (a, m) = cc in ap (λ (x : A × List Item). Some x.0) q

joined_if : (items m : List Item) (b : Bool) → ◌≡◌ {A = Option (Bool × List Item)} (if b then Some (true, items) else None) (Some (true, m)) → b ≡ true
joined_if items m true e = refl
joined_if items m false e = cc

module _ (S : PlainSignature) where
  reductions_sound : (n m : List Item) (t u : Tree) → next_reduction S n t ≡ Some (u, m) → ReducesTo S t u
  reductions_sound [] m t u e = cc
  reductions_sound (reduction xs ∷ items) m t u e = steps_sound S xs t u (from_rest items (steps_taken S xs t) u m e)
  reductions_sound (joining xs ys ∷ items) m t u e = cc
  reductions_sound (equation w xs ys ∷ items) m t u e = cc

  joinings_sound : (n m : List Item) (t u : Tree) → next_joining S n t u ≡ Some (true, m) → AreJoinable S t u
  joinings_sound [] m t u e = cc
  joinings_sound (reduction xs ∷ items) m t u e = cc
  joinings_sound (joining xs ys ∷ items) m t u e = joined_is S xs ys t u (joined_if items m (both_same (steps_taken S xs t) (steps_taken S ys u)) e)
  joinings_sound (equation w xs ys ∷ items) m t u e = cc

  -- ---- equations

  module _ (s : Bindings) (t u v w : Tree) (rt : ReducesTo S (under s t) v) (ru : ReducesTo S (under s u) w) (ps : Equations) (r : Bindings) where
    -- what a solved equation leaves resolves with the others, and so do both
    abbrev Goes : Option Solved → Type 0
    Goes o = (q : Bindings) (qs : Equations) → o ≡ Some (q, qs) → Resolves S q (qs ++ ps) r → Resolves S s ((t, u) ∷ ps) r

    dropped_goes : Goes (Some (s, []))
    dropped_goes q qs e h = let i : ◌≡◌ {A = Solved} (s, []) (q, qs) = cc in
        dropped t u [] ps (along (λ x. Resolves S x.0 (x.1 ++ ps) r) (flip i) h)

    same_goes : (b : Bool) → Goes (if b then Some (s, []) else None)
    same_goes true q qs e h = dropped_goes q qs e h
    same_goes false q qs e h = cc

    side_binds : (k : _) (x : Tree) → BindsSide (under s v) (under s w) k x → Resolves S (bound s k x) ps r → Resolves S s ((t, u) ∷ ps) r
    side_binds k x (binds_left i j may) h = binding t u v w [] ps rt ru
        (along (λ z. Binds s z (under s w) (bound s k x)) (flip i) (along (λ z. Binds s (rule_variable k) z (bound s k x)) (flip j) (left_binds k may))) h
    side_binds k x (binds_right i j may) h = binding t u v w [] ps rt ru
        (along (λ z. Binds s (under s v) z (bound s k x)) (flip i) (along (λ z. Binds s z (rule_variable k) (bound s k x)) (flip j) (right_binds k may))) h

    bound_goes : (e : Equation) → IsEquation S (under s v) (under s w) e → Goes (if_bound s e)
    bound_goes (binds k x) i q qs e h = let j : ◌≡◌ {A = Solved} (bound s k x, []) (q, qs) = cc in
        side_binds k x i (along (λ z. Resolves S z.0 (z.1 ++ ps) r) (flip j) h)
    bound_goes (parts xs) i q qs e h = cc
    bound_goes clash i q qs e h = cc
    bound_goes nothing i q qs e h = cc

    parts_go : (e : Equation) → IsEquation S (under s v) (under s w) e → Goes (if_parts s e)
    parts_go (parts xs) i q qs e h = let j : ◌≡◌ {A = Solved} (s, xs) (q, qs) = cc in
        replaced t u v w [] ps rt ru i (along (λ z. Resolves S z.0 (z.1 ++ ps) r) (flip j) h)
    parts_go (binds k x) i q qs e h = cc
    parts_go clash i q qs e h = cc
    parts_go nothing i q qs e h = cc

    nothing_goes : (e : Equation) → Goes (if_nothing s e)
    nothing_goes nothing q qs e h = dropped_goes q qs e h
    nothing_goes (binds k x) q qs e h = cc
    nothing_goes (parts xs) q qs e h = cc
    nothing_goes clash q qs e h = cc

    left_goes : (b : Bool) → Goes (if b then if_bound s (equation_of S (under s v) (under s w)) else None)
    left_goes true q qs e h = bound_goes (equation_of S (under s v) (under s w)) (equation_is S (under s v) (under s w)) q qs e h
    left_goes false q qs e h = cc

    right_goes : (b : Bool) → Goes (if b then None else if_bound s (equation_of S (under s v) (under s w)))
    right_goes true q qs e h = cc
    right_goes false q qs e h = bound_goes (equation_of S (under s v) (under s w)) (equation_is S (under s v) (under s w)) q qs e h

    word_goes : (x : ItemWord) → Goes (word_taken S x s (under s v) (under s w))
    word_goes same_now = same_goes (equal (under s v) (under s w))
    word_goes left_bound = left_goes (is_left (under s v) (under s w))
    word_goes right_bound = right_goes (is_left (under s v) (under s w))
    word_goes in_parts = parts_go (equation_of S (under s v) (under s w)) (equation_is S (under s v) (under s w))
    word_goes let_go = nothing_goes (equation_of S (under s v) (under s w))

  equation_goes : (x : ItemWord) (xs ys : ItemSteps) (s q r : Bindings) (t u : Tree) (qs ps : Equations) → equation_taken S x xs ys s t u ≡ Some (q, qs)
      → Resolves S q (qs ++ ps) r → Resolves S s ((t, u) ∷ ps) r
  equation_goes x xs ys s q r t u qs ps e h = from_and_then (Resolves S s ((t, u) ∷ ps) r) (steps_taken S xs (under s t)) _ (q, qs) e (λ v a g.
      from_and_then (Resolves S s ((t, u) ∷ ps) r) (steps_taken S ys (under s u)) _ (q, qs) g (λ w b f.
      word_goes s t u v w (steps_sound S xs (under s t) v a) (steps_sound S ys (under s u) w b) ps r x q qs f h))

  solved_holds : (items m : List Item) (s r : Bindings) (t u : Tree) (ps : Equations) (x : ItemWord) (xs ys : ItemSteps)
      → ((q : Bindings) (qs : Equations) → solutions_taken S items q (qs ++ ps) ≡ answer r m → Resolves S q (qs ++ ps) r)
      → (o : Option Solved) → equation_taken S x xs ys s t u ≡ o → solving_on o (λ q qs. solutions_taken S items q (qs ++ ps)) ≡ answer r m → Resolves S s ((t, u) ∷ ps) r
  solved_holds items m s r t u ps x xs ys h None i e = cc
  solved_holds items m s r t u ps x xs ys h (Some p) i e = equation_goes x xs ys s p.0 r t u p.1 ps i (h p.0 p.1 e)

  solutions_hold : (items m : List Item) (s r : Bindings) (ps : Equations) → solutions_taken S items s ps ≡ answer r m → Resolves S s ps r
  solutions_hold items m s r [] e = let q : s ≡ r = cc in along (λ x. Resolves S s [] x) q resolved
  solutions_hold [] m s r (p ∷ ps) e = cc
  solutions_hold (reduction xs ∷ items) m s r (p ∷ ps) e = cc
  solutions_hold (joining xs ys ∷ items) m s r (p ∷ ps) e = cc
  solutions_hold (equation x xs ys ∷ items) m s r (p ∷ ps) e = solved_holds items m s r p.0 p.1 ps x xs ys
      (λ q qs. solutions_hold items m q r (qs ++ ps)) (equation_taken S x xs ys s p.0 p.1) refl e

  solutions_sound : (n m : List Item) (s r : Bindings) (t u : Tree) → next_solution S n s t u ≡ answer r m → Resolves S s ((t, u) ∷ []) r
  solutions_sound n m s r t u e = solutions_hold n m s r ((t, u) ∷ []) e

  pub items_reduce : Reduces S (by_items S)
  items_reduce = record { whnf = reductions_sound; same = joinings_sound; normal = reductions_sound; solve = solutions_sound }

-- a command with a checked derivation has a derivation
pub checked_derives : (S : PlainSignature) → HasNoAnnotations S → (c : PlainCommand) (items : List Item) → IsChecked S c items → HasDerivation S c
checked_derives S P (declare s A b) items e = accepted_derives S (by_items S) (items_reduce S) P (declare s A b) items (ap verdict e)
checked_derives S P (rule_command rs) items e = accepted_derives S (by_items S) (items_reduce S) P (rule_command rs) items (ap verdict e)
checked_derives S P (query demand a) items e = tt
