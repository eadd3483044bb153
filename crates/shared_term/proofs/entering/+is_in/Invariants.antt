-- One argument fewer.
use Rattle.std.proofs.Common.{length}
use Rattle.shared_term.proofs.entering.+is_in.Given as goal

abbrev pub decreases-is_in : goal.decreases-is_in
decreases-is_in l = length l.arguments.now
