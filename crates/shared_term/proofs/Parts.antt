-- One more that waits, or one fewer.
use Rattle.std.proofs.Common.{◌≡◌, ◌+◌, ◌<◌, List, [], ◌∷◌, ◌++◌, length, refl, ap, arith}
use Rattle.dk_model.specs.Trees.{Tree, star, kind, symbol, variable, rule_variable, apply, bare, annotated, product}
use Rattle.shared_term.specs.declared.id.TermId.{TermId}
use Rattle.shared_term.specs.declared.change.Pair.{Pair}
use Rattle.shared_term.specs.declared.change.Pair.TheVariants.{Application, Abstraction, Product}
use Rattle.shared_term.specs.declared.building.Waiting.{Waiting}
use Rattle.shared_term.specs.Pools.{Node, term, terms, denoted, IsWithin}
use Rattle.shared_term.specs.Changes.{joined, joined_node}
use Rattle.shared_term.specs.Building.{turns, turns_of, turns_waiting, with_part, outermost}

pub some_turns : (t : Tree) → 0 < turns t
some_turns star = omega arith
some_turns kind = omega arith
some_turns (symbol k) = omega arith
some_turns (variable k) = omega arith
some_turns (rule_variable k) = omega arith
some_turns (apply f a) = omega arith
some_turns (bare b) = omega arith
some_turns (annotated n b) = omega arith
some_turns (product a b) = omega arith

pub joined_turns : (pair : Pair) (x y : Tree) → turns (joined pair x y) ≡ turns x + turns y + 3
joined_turns Application x y = refl
joined_turns Abstraction x y = refl
joined_turns Product x y = refl

-- a node of two parts
module _ (ns : List Node) where
  pub joined_within : (pair : Pair) (x y : TermId) → x.0 < length ns → y.0 < length ns → IsWithin (length ns) (joined_node pair x y)
  joined_within Application x y l k = (l, k)
  joined_within Abstraction x y l k = (l, k)
  joined_within Product x y l k = (l, k)

  pub joined_denotes : (pair : Pair) (x y : TermId) → denoted (terms ns) (joined_node pair x y) ≡ joined pair (term ns x) (term ns y)
  joined_denotes Application x y = refl
  joined_denotes Abstraction x y = refl
  joined_denotes Product x y = refl

module _ {S T : Type 0} (given : S → Tree) where
  pub turns_push : (ws : List (Waiting S T)) (w : Waiting S T) → turns_waiting given (ws ++ w ∷ []) ≡ turns_waiting given ws + turns_of given w
  turns_push [] w = omega arith
  turns_push (v ∷ ws) w = omega (arith, turns_push ws w)

  pub outermost_push : (built : T → Tree) (ws : List (Waiting S T)) (w : Waiting S T) (y : Tree)
      → outermost given built (ws ++ w ∷ []) y ≡ outermost given built ws (with_part given built w y)
  outermost_push built [] w y = refl
  outermost_push built (v ∷ ws) w y = ap (with_part given built v) (outermost_push built ws w y)
