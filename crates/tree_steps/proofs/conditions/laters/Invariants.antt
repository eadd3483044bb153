use Rattle.std.proofs.Common.{◌≡◌, [], ◌++◌, map, take, drop}
use Rattle.checked_steps.specs.Matching.{laters}
use Rattle.tree_steps.specs.Views.{part, pair}
use Rattle.tree_steps.proofs.conditions.laters.Given as goal

abbrev pub invariant-loop-at : goal.invariant-loop-at
invariant-loop-at l = laters [] (map part l.parts) ≡ map pair l.pairs ++ laters (map part (take l.at l.parts)) (map part (drop l.at l.parts))
