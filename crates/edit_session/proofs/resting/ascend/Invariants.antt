-- Those that are left ascend from here as all do.
use Rattle.std.proofs.Common.{◌≡◌, length}
use Rattle.edit_session.specs.Resting.{ascend_from}
use Rattle.edit_session.proofs.resting.ascend.Given as goal

abbrev pub invariant-loop-place : goal.invariant-loop-place
invariant-loop-place l = ascend_from l.least l.rest ≡ ascend_from 0 l.fn.places

abbrev pub decreases-loop-place : goal.decreases-loop-place
decreases-loop-place l = length l.rest
