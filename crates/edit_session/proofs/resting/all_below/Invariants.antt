use Rattle.std.proofs.Common.{◌≡◌, length}
use Rattle.prune_theory.specs.Before.{all_below}
use Rattle.edit_session.proofs.resting.all_below.Given as goal

abbrev pub invariant-loop-place : goal.invariant-loop-place
invariant-loop-place l = all_below l.own l.rest ≡ all_below l.own l.fn.places

abbrev pub decreases-loop-place : goal.decreases-loop-place
decreases-loop-place l = length l.rest
