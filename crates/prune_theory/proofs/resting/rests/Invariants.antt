use Rattle.std.proofs.Common.{◌≡◌, ◌+◌, map, take, replicate, []}
use Rattle.dk_model.specs.Scoping.{plain_command}
use Rattle.prune_theory.specs.Reaching.{weight, with_commands, IsUnderWay}
use Rattle.prune_theory.proofs.resting.rests.Given as goal

abbrev pub invariant-loop-place : goal.invariant-loop-place
invariant-loop-place l = IsUnderWay (map plain_command l.commands) l.k l.index.items l.marks.items l.waiting.items

abbrev pub decreases-loop-place : goal.decreases-loop-place
decreases-loop-place l = weight l.marks.items l.waiting.items
