use Rattle.std.proofs.Common.{◌≡◌, ◌≤◌, ◌-◌, length, replicate, false}
use Rattle.prune_theory.proofs.resting.no_marks.Given as goal

abbrev pub invariant-loop-marks : goal.invariant-loop-marks
invariant-loop-marks l = record {
  marks : l.marks.items ≡ replicate (length l.marks.items) false;
  within : length l.marks.items ≤ l.count;
}

abbrev pub decreases-loop-marks : goal.decreases-loop-marks
decreases-loop-marks l = l.count - length l.marks.items
