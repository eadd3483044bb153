use Rattle.std.proofs.Common.{length}
use Rattle.rule_check.proofs.occurrence.+applied.Given as goal

abbrev pub decreases-applied : goal.decreases-applied
decreases-applied g l = length l.rest.now
