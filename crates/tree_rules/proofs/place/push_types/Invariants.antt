use Rattle.std.proofs.Common.{◌≡◌, ◌++◌, map, take}
use Rattle.dk_model.specs.Trees.{tree}
use Rattle.dk_model.specs.Bindings.{under}
use Rattle.tree_typing.specs.Given.{bindings}
use Rattle.tree_rules.proofs.place.push_types.Given as goal

abbrev pub invariant-loop-typ : goal.invariant-loop-typ
invariant-loop-typ l = map tree l.types ≡ map tree l.fn.types ++ map (under (bindings l.bindings)) (map tree (take l.typ-index l.others))
