use Rattle.std.proofs.Common.{length}
use Rattle.tree_rules.proofs.variables.+applied.Given as goal

abbrev pub decreases-applied : goal.decreases-applied
decreases-applied l = length l.variables.now
