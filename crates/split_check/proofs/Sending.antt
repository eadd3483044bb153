-- Terms that are sent and brought.
use Rattle.std.proofs.Common.{List, [], ◌∷◌, ◌++◌, ◌≡◌, map, refl, ap, sym as flip, ◌∙◌}
use Rattle.dk_model.specs.Trees.{Tree}
use Rattle.shared_term.specs.Storage.{stored_term}
use Rattle.shared_term.specs.declared.stored.Stored.{Stored}
use Rattle.signature_log.specs.Reducers.{AreOwned, Keeps}
use Rattle.infer_check.specs.Contexts.{innermost_first, rule_types, bound_types}
use Rattle.infer_check.specs.declared.context.Context.{Context}
use Rattle.infer_check.proofs.Contexts.{types_kept}
use Rattle.split_check.specs.Steps.{sent_rule_types, sent_bound_types}

-- the last first
abbrev reversed : List Tree → List Tree
reversed [] = []
reversed (x ∷ xs) = reversed xs ++ x ∷ []

by_map : {R T : Type 0} (denotes : R → T → Tree) (r : R) (ts : List T) → innermost_first denotes r ts ≡ reversed (map (denotes r) ts)
by_map denotes r [] = refl
by_map denotes r (t ∷ ts) = ap (λ xs. xs ++ denotes r t ∷ []) (by_map denotes r ts)

pushed_in_front : {T : Type 0} (f : T → Tree) (ts : List T) (t : T) (more : List Tree) → map f (ts ++ t ∷ []) ++ more ≡ map f ts ++ f t ∷ more
pushed_in_front f [] t more = refl
pushed_in_front f (x ∷ ts) t more = ap (λ l. f x ∷ l) (pushed_in_front f ts t more)

module _ {R T : Type 0} (owns : R → T → Type 0) (denotes : R → T → Tree) where
  pub next_brought : (old new : R) (made grown : List T) (t : T) (rest all : List Tree) (x : Tree) → Keeps owns denotes old new → AreOwned owns old made → grown ≡ made ++ t ∷ [] → denotes new t ≡ x
      → map (denotes old) made ++ x ∷ rest ≡ all → map (denotes new) grown ++ rest ≡ all
  next_brought old new made grown t rest all x k o g e h = ap (λ ts. map (denotes new) ts ++ rest) g ∙ pushed_in_front (denotes new) made t rest
      ∙ ap (λ ys. ys ++ denotes new t ∷ rest) (types_kept old new made k o) ∙ ap (λ y. map (denotes old) made ++ y ∷ rest) e ∙ h

module _ {R T : Type 0} (denotes : R → T → Tree) (r : R) (c : Context T) (s : Context Stored) where
  pub rule_types_sent : map stored_term s.rule_vars ≡ map (denotes r) c.rule_vars → sent_rule_types s ≡ rule_types denotes r c
  rule_types_sent e = e

  pub bound_types_sent : map stored_term s.bound ≡ map (denotes r) c.bound → sent_bound_types s ≡ bound_types denotes r c
  bound_types_sent e = by_map (λ (u : Unit {0}) t. stored_term t) tt s.bound ∙ ap reversed e ∙ flip (by_map denotes r c.bound)

  pub rule_types_brought : map (denotes r) c.rule_vars ≡ map stored_term s.rule_vars → rule_types denotes r c ≡ sent_rule_types s
  rule_types_brought e = e

  pub bound_types_brought : map (denotes r) c.bound ≡ map stored_term s.bound → bound_types denotes r c ≡ sent_bound_types s
  bound_types_brought e = by_map denotes r c.bound ∙ ap reversed e ∙ flip (by_map (λ (u : Unit {0}) t. stored_term t) tt s.bound)
