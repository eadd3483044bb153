use Rattle.std.proofs.Common.{length}
use Rattle.tree_rules.proofs.types.+later_type.Given as goal

abbrev pub decreases-later_type : goal.decreases-later_type
decreases-later_type g l = length l.variables.now
