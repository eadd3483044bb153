use Rattle.std.proofs.Common.{◌≡◌, map, take}
use Rattle.dk_model.specs.Trees.{tree}
use Rattle.dk_model.specs.Signatures.{maybe_tree}
use Rattle.dk_model.specs.RuleTypingOver.{types_under}
use Rattle.tree_rules.proofs.bindings.types_under.Given as goal

abbrev pub invariant-loop-typ : goal.invariant-loop-typ
invariant-loop-typ l = map tree l.all ≡ types_under (map maybe_tree l.bindings) (map maybe_tree (take l.typ-index l.types))
