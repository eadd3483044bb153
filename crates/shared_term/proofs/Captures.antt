-- The capture of a rule variable, as a number and as a term.
use Rattle.std.proofs.Common.{◌≡◌, ℕ, zero, suc, ◌+◌, ◌<◌, ◌≤◌, List, [], ◌∷◌, length, Option, Some, None, refl, ap, sym, subst, ◌∙◌, arith, take}
use Rattle.std.proofs.lemmas.List.{take_all}
use Rattle.dk_model.specs.Trees.{Tree, rule_variable, bare}
use Rattle.dk_model.specs.Substitution.{shift}
use Rattle.dk_model.specs.Captures.{capture_at, filled, abstracted}
use Rattle.shared_term.specs.declared.id.TermId.{TermId}
use Rattle.shared_term.specs.declared.change.Change.{Change}
use Rattle.shared_term.specs.declared.change.Change.TheVariants.{Shift, Fill}
use Rattle.shared_term.specs.declared.change.Goal.{Goal}
use Rattle.shared_term.specs.declared.change.Given.{Given}
use Rattle.shared_term.specs.declared.entering.Step.TheVariants.{Instead}
use Rattle.shared_term.specs.Pools.{Node, term}
use Rattle.shared_term.specs.Changes.{AreCaptures, captured_terms, capture_id, changed, wanted, IsKnown, IsAsked}
use Rattle.shared_term.specs.Walks.{weight, captures_weight, goal_weight, more, IsStep}

same_some : (x y : TermId) → Some x ≡ Some y → x ≡ y
same_some x y e = cc

module _ (ns : List Node) (g : Given) where
  capture_known : (cs : List (Option TermId)) (k : ℕ) (x : TermId) → AreCaptures (length ns) cs → capture_id cs k ≡ Some x
      → (x.0 < length ns) × (capture_at (captured_terms ns cs) k ≡ Some (term ns x)) × (weight ns g 0 (term ns x) ≤ captures_weight ns g cs)
  capture_known [] k x h e = cc
  capture_known (None ∷ cs) zero x h e = cc
  capture_known (None ∷ cs) (suc k) x h e = capture_known cs k x h e
  capture_known (Some y ∷ cs) zero x h e =
      let p = same_some y x e in (
        subst (λ (z : TermId). z.0 < length ns) p h.0,
        ap (λ z. Some (term ns z)) p,
        subst (λ (z : TermId). weight ns g 0 (term ns z) ≤ weight ns g 0 (term ns y) + captures_weight ns g cs) p (omega arith),
      )
  capture_known (Some y ∷ cs) (suc k) x h e = let r = capture_known cs k x h.1 e in (r.0, r.1, omega (arith, r.2))

  capture_none : (cs : List (Option TermId)) (k : ℕ) → capture_id cs k ≡ None → capture_at (captured_terms ns cs) k ≡ None
  capture_none [] k e = refl
  capture_none (None ∷ cs) zero e = refl
  capture_none (None ∷ cs) (suc k) e = capture_none cs k e
  capture_none (Some y ∷ cs) zero e = cc
  capture_none (Some y ∷ cs) (suc k) e = capture_none cs k e

  filled_at : (goal : Goal) (k : ℕ) → goal.change ≡ Fill → term ns goal.id ≡ rule_variable k → wanted ns g goal ≡ filled (captured_terms ns g.captures.now) goal.depth (rule_variable k)
  filled_at goal k e is = ap (λ c. changed ns g c goal.depth (term ns goal.id)) e ∙ ap (filled (captured_terms ns g.captures.now) goal.depth) is

  pub filled_none : (goal : Goal) (k : ℕ) → goal.change ≡ Fill → term ns goal.id ≡ rule_variable k → capture_id g.captures.now k ≡ None → term ns goal.id ≡ wanted ns g goal
  filled_none goal k e is none =
      let h : filled (captured_terms ns g.captures.now) goal.depth (rule_variable k) ≡ rule_variable k = rw (capture_none g.captures.now k none, filled) refl in
      is ∙ sym h ∙ sym (filled_at goal k e is)

  pub filled_some : (goal : Goal) (k : ℕ) (x : TermId) → goal.change ≡ Fill → IsAsked (length ns) g goal → term ns goal.id ≡ rule_variable k → capture_id g.captures.now k ≡ Some x
      → IsStep ns g goal (Instead (record { change = Shift goal.depth; id = x; depth = 0 }))
  filled_some goal k x e asked is some =
      let known = subst (λ (c : Change). IsKnown (length ns) g c) e asked.1 in
      let r = capture_known g.captures.now k x known some in
      let h : filled (captured_terms ns g.captures.now) goal.depth (rule_variable k) ≡ shift 0 goal.depth (term ns x) = rw (r.1, filled) refl in
      let w : goal_weight ns g goal ≡ captures_weight ns g g.captures.now + 1 = (λ i. weight ns g (more ns g (e i)) (is i)) in
      ((r.0, tt), filled_at goal k e is ∙ h, omega (arith, r.2, w))

more_binders : (xs : List ℕ) (i : ℕ) (t : Tree) → i < length xs → abstracted (take (suc i) xs) t ≡ bare (abstracted (take i xs) t)
more_binders [] i t l = absurd (omega arith)
more_binders (x ∷ xs) zero t l = refl
more_binders (x ∷ xs) (suc i) t l = ap bare (more_binders xs i t (omega arith))

-- one binder more
pub abstracted_more : (xs : List ℕ) (i : ℕ) (t : Tree) → i < length xs → abstracted (take (i + 1) xs) t ≡ bare (abstracted (take i xs) t)
abstracted_more xs i t l = ap (λ k. abstracted (take k xs) t) (let e : i + 1 ≡ suc i = omega arith in e) ∙ more_binders xs i t l

pub abstracted_all : (xs : List ℕ) (i : ℕ) (t : Tree) → length xs ≤ i → abstracted (take i xs) t ≡ abstracted xs t
abstracted_all xs i t l = ap (λ ys. abstracted ys t) (take_all i xs l)
