-- One argument fewer.
use Rattle.std.proofs.Common.{length}
use Rattle.shared_term.proofs.entering.+index_of.Given as goal

abbrev pub decreases-index_of : goal.decreases-index_of
decreases-index_of l = length l.arguments.now
