use Rattle.std.proofs.Common.{length}
use Rattle.rule_match.proofs.group.+push_groups.Given as goal

abbrev pub decreases-push_groups : goal.decreases-push_groups
decreases-push_groups l = length l.keys.now
