use Rattle.std.proofs.Common.{length}
use Rattle.term_print.proofs.task.+push_last_first.Given as goal

abbrev pub decreases-push_last_first : goal.decreases-push_last_first
decreases-push_last_first l = length l.next.now
