-- What is still to be reached leads from here to what all of it leads to.
use Rattle.std.proofs.Common.{length}
use Rattle.edit_session.specs.Resting.{LeadsOn}
use Rattle.edit_session.proofs.resting.reach_all.Given as goal

abbrev pub invariant-loop-place : goal.invariant-loop-place
invariant-loop-place l = LeadsOn l.mark l.marks.items l.reached.items l.rest l.fn.marks.items l.fn.reached.items l.fn.places

abbrev pub decreases-loop-place : goal.decreases-loop-place
decreases-loop-place l = length l.rest
