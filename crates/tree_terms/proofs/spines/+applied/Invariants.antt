use Rattle.std.proofs.Common.{length}
use Rattle.tree_terms.proofs.spines.+applied.Given as goal

abbrev pub decreases-applied : goal.decreases-applied
decreases-applied l = length l.arguments.now
