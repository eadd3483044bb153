use Rattle.std.proofs.Common.{◌≡◌, ◌+◌, length}
use Rattle.dk_check_run.specs.Recheck.{line_due}
use Rattle.dk_check_run.proofs.rechecking.line_due.Given as goal

abbrev pub invariant-loop-byte : goal.invariant-loop-byte
invariant-loop-byte l = l.line + line_due l.rest ≡ line_due l.fn.bytes + 1

abbrev pub decreases-loop-byte : goal.decreases-loop-byte
decreases-loop-byte l = length l.rest
