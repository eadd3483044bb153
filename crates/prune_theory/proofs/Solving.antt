-- Equations of terms that are alike are solved over similar signatures by bindings that are alike, with the same units.
use Rattle.std.proofs.Common.{List, [], ◌∷◌, ℕ, zero, suc, ◌≡◌, Bool, true, false, ◌&&◌, Option, Some, None, refl, ap, subst, if◌then◌else◌}
use Rattle.std.specs.Prelude.{not}
use Rattle.dk_model.specs.PlainTerms.{Tree}
use Rattle.dk_model.specs.PlainEntries.{PlainSignature}
use Rattle.dk_model.specs.Spines.{head}
use Rattle.dk_model.specs.Bindings.{Bindings, may_bind}
use Rattle.dk_model.specs.Typing.{Judged}
use Rattle.dk_model.specs.Solving.{Solver, has_parts, is_rigid_head, binder_of, rigid_parts, Equation, binds, parts, clash, nothing, heads_apart, parts_or, binds_or, equation_of, each_solved, equation_solved, heads_solved, unless_same, solved_with, solved}
use Rattle.prune_theory.specs.Alike.{Each, none_left, one_more, Maybe, neither, both, InJudged, both_answer, both_refused, both_ended, Alike, alike_star, alike_kind, alike_symbol, alike_variable, alike_rule_variable, alike_apply, alike_bare, alike_annotated, alike_product, AreSimilar}
use Rattle.prune_theory.proofs.Lists.{if_alike}
use Rattle.prune_theory.proofs.Terms.{AlikePair, head_alike, pairs_alike}
use Rattle.prune_theory.proofs.Bindings.{AlikeBindings, under_alike, bound_alike, may_bind_alike}
use Rattle.prune_theory.proofs.Evaluation.{whnf_alike, comparison_alike}
use Rattle.prune_theory.proofs.Typing.{after_alike, next_alike}

pub data AlikeEquation (Q : ℕ → ℕ → Type 0) : Equation → Equation → Type 0 where
  alike_binds : {k : ℕ} {u v : Tree} → Alike Q u v → AlikeEquation Q (binds k u) (binds k v)
  alike_parts : {ps qs : List (Tree × Tree)} → Each (AlikePair Q) ps qs → AlikeEquation Q (parts ps) (parts qs)
  alike_clash : AlikeEquation Q clash clash
  alike_nothing : AlikeEquation Q nothing nothing

-- each solves equations that are alike by bindings that are alike
abbrev Solves : (ℕ → ℕ → Type 0) → Solver → Solver → Type 0
Solves Q A B = (n : ℕ) (s r : Bindings) (t u v w : Tree) → AlikeBindings Q s r → Alike Q t v → Alike Q u w → InJudged (AlikeBindings Q) (A s t u n) (B r v w n)

module _ {Q : ℕ → ℕ → Type 0} where
  apart_alike : (b c : Bool) → b ≡ c → AlikeEquation Q (heads_apart b) (heads_apart c)
  apart_alike b c e = subst (λ z. AlikeEquation Q (heads_apart b) (heads_apart z)) e (itself b)
    where
      itself : (b : Bool) → AlikeEquation Q (heads_apart b) (heads_apart b)
      itself true = alike_clash
      itself false = alike_nothing

  parts_or_alike : {e d : Equation} {o o' : Option (List (Tree × Tree))} → AlikeEquation Q e d → Maybe (Each (AlikePair Q)) o o' → AlikeEquation Q (parts_or e o) (parts_or d o')
  parts_or_alike e neither = e
  parts_or_alike e (both ps) = alike_parts ps

  binds_or_alike : {e d : Equation} {u v : Tree} (o o' : Option ℕ) → o ≡ o' → AlikeEquation Q e d → Alike Q u v → AlikeEquation Q (binds_or e u o) (binds_or d v o')
  binds_or_alike {e} {d} {u} {v} o o' same a p = subst (λ z. AlikeEquation Q (binds_or e u o) (binds_or d v z)) same (itself o)
    where
      itself : (o : Option ℕ) → AlikeEquation Q (binds_or e u o) (binds_or d v o)
      itself None = a
      itself (Some k) = alike_binds p

  binder_alike : {t u v w : Tree} → Alike Q t u → Alike Q v w → binder_of t v ≡ binder_of u w
  binder_alike (alike_rule_variable {k}) q = λ i. if may_bind_alike k q i then Some k else None
  binder_alike p q = refl

  each_alike : (A B : Solver) → Solves Q A B → (n : ℕ) {ps qs : List (Tree × Tree)} {s r : Bindings} → Each (AlikePair Q) ps qs → AlikeBindings Q s r
      → InJudged (AlikeBindings Q) (each_solved A ps s n) (each_solved B qs r n)
  each_alike A B k n none_left s = both_answer s
  each_alike A B k n (one_more p ps) s = next_alike (k n _ _ _ _ _ _ s p.0 p.1) (λ a b m r. each_alike A B k m ps r)

  equation_alike : (A B : Solver) → Solves Q A B → (n : ℕ) {s r : Bindings} {e d : Equation} → AlikeBindings Q s r → AlikeEquation Q e d
      → InJudged (AlikeBindings Q) (equation_solved A s e n) (equation_solved B r d n)
  equation_alike A B k n s (alike_binds {k = j} p) = both_answer (bound_alike j s p)
  equation_alike A B k n s (alike_parts ps) = each_alike A B k n ps s
  equation_alike A B k n s alike_clash = both_refused
  equation_alike A B k n s alike_nothing = both_answer s

  unless_alike : (n : ℕ) {x y : Judged Bindings} {s r : Bindings} (b c : Bool) → b ≡ c → InJudged (AlikeBindings Q) x y → AlikeBindings Q s r → InJudged (AlikeBindings Q) (unless_same x s b n) (unless_same y r c n)
  unless_alike n {x} {y} {s} {r} b c e j a = subst (λ z. InJudged (AlikeBindings Q) (unless_same x s b n) (unless_same y r z n)) e (itself b)
    where
      itself : (b : Bool) → InJudged (AlikeBindings Q) (unless_same x s b n) (unless_same y r b n)
      itself true = both_answer a
      itself false = j

module _ {Q : ℕ → ℕ → Type 0} {S S' : PlainSignature} (similar : AreSimilar Q S S') where
  parts_alike : {t u : Tree} → Alike Q t u → has_parts S t ≡ has_parts S' u
  parts_alike (alike_symbol {j} {k} q) = ap not (similar.definable j k q)
  parts_alike p = refl

  rigid_alike : {t u : Tree} → Alike Q t u → is_rigid_head S t ≡ is_rigid_head S' u
  rigid_alike (alike_symbol {j} {k} q) = ap not (similar.definable j k q)
  rigid_alike p = refl

  rigid_parts_alike : {t u v w : Tree} → Alike Q t v → Alike Q u w → Maybe (Each (AlikePair Q)) (rigid_parts S t u) (rigid_parts S' v w)
  rigid_parts_alike p q = if_alike (Maybe (Each (AlikePair Q))) _ _ _ _ _ _ (parts_alike (head_alike p)) (pairs_alike similar.matching p q) neither

  equation_of_alike : {t u v w : Tree} → Alike Q t v → Alike Q u w → AlikeEquation Q (equation_of S t u) (equation_of S' v w)
  equation_of_alike p q = binds_or_alike _ _ (binder_alike p q)
      (binds_or_alike _ _ (binder_alike q p) (parts_or_alike (apart_alike _ _ (λ i. rigid_alike (head_alike p) i && rigid_alike (head_alike q) i)) (rigid_parts_alike p q)) p) q

  heads_alike : (A B : Solver) → Solves Q A B → Solves Q (heads_solved S A) (heads_solved S' B)
  heads_alike A B k n s r t u v w b p q = after_alike (whnf_alike similar n (under_alike b p)) (λ x y m e. after_alike (whnf_alike similar m (under_alike b q)) (λ c d i f.
      equation_alike A B k i b (equation_of_alike (under_alike b e) (under_alike b f))))

  solved_with_alike : (f : ℕ) → Solves Q (solved_with f S) (solved_with f S')
  solved_with_alike zero n s r t u v w b p q = both_ended
  solved_with_alike (suc f) n s r t u v w b p q = after_alike (comparison_alike similar n (under_alike b p) (under_alike b q)) (λ x y m e.
      unless_alike m x y e (heads_alike (solved_with f S) (solved_with f S') (solved_with_alike f) m s r t u v w b p q) b)

  pub solved_alike : (n : ℕ) {s r : Bindings} {t u v w : Tree} → AlikeBindings Q s r → Alike Q t v → Alike Q u w → InJudged (AlikeBindings Q) (solved S s t u n) (solved S' r v w n)
  solved_alike n {s} {r} {t} {u} {v} {w} b p q = solved_with_alike n n s r t u v w b p q
