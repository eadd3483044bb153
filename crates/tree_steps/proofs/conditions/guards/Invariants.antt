use Rattle.std.proofs.Common.{◌≡◌, ◌++◌, map, drop}
use Rattle.typing_model.specs.Steps.{capture}
use Rattle.checked_steps.specs.Matching.{guards}
use Rattle.tree_steps.specs.Views.{part, pair}
use Rattle.tree_steps.proofs.conditions.guards.Given as goal

abbrev pub invariant-loop-part : goal.invariant-loop-part
invariant-loop-part l = guards (capture (map part l.parts)) (map part l.parts) ≡ map pair l.pairs ++ guards (capture (map part l.parts)) (map part (drop l.part-index l.parts))
