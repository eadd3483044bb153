use Rattle.std.proofs.Common.{◌≡◌, ◌++◌, map, take}
use Rattle.dk_model.specs.Trees.{tree}
use Rattle.tree_rules.proofs.place.push_all.Given as goal

abbrev pub invariant-loop-typ : goal.invariant-loop-typ
invariant-loop-typ l = map tree l.types ≡ map tree l.fn.types ++ map tree (take l.typ-index l.others)
