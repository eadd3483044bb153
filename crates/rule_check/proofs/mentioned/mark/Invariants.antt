use Rattle.std.proofs.Common.{◌≡◌, ◌+◌, ◌-◌, length}
use Rattle.rule_check.specs.Mentioned.{with_mark}
use Rattle.rule_check.proofs.mentioned.mark.Given as goal

abbrev pub invariant-loop-marks : goal.invariant-loop-marks
invariant-loop-marks l = with_mark l.marks.items l.fn.number ≡ with_mark l.fn.marks.items l.fn.number

abbrev pub decreases-loop-marks : goal.decreases-loop-marks
decreases-loop-marks l = l.fn.number + 1 - length l.marks.items
