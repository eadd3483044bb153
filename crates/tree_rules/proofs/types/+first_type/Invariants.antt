use Rattle.std.proofs.Common.{length}
use Rattle.tree_rules.proofs.types.+first_type.Given as goal

abbrev pub decreases-first_type : goal.decreases-first_type
decreases-first_type g l = length l.variables.now
