-- The annotations of a rule, by their parts.
use Rattle.std.proofs.Common.{List, [], ◌∷◌, Option, Some, None, ◌≡◌, refl, map, ap, ◌∙◌}
use Rattle.dk_model.specs.Trees.{Tree}
use Rattle.dk_model.specs.Signatures.{maybe_tree}
use Rattle.dk_model.specs.Bindings.{Bindings}
use Rattle.dk_model.specs.declared.term.Term.{Term}
use Rattle.dk_model.specs.TypingOver.{Evaluator, answer}
use Rattle.dk_model.specs.RuleTypingOver.{notes_agree}

module _ {X : Type 0} (E : Evaluator X) where
  -- no rule variable with a type is left
  none_left : (s : Bindings) (notes : List (Option Tree)) (n : X) → notes_agree E s notes [] n ≡ answer tt n
  none_left s [] n = refl
  none_left s (Some a ∷ notes) n = refl
  none_left s (None ∷ notes) n = refl

  pub notes_end : (s : Bindings) (notes types : List (Option Term)) (n : X) → types ≡ [] → notes_agree E s (map maybe_tree notes) (map maybe_tree types) n ≡ answer tt n
  notes_end s notes types n e = ap (λ ts. notes_agree E s (map maybe_tree notes) (map maybe_tree ts) n) e ∙ none_left s (map maybe_tree notes) n
