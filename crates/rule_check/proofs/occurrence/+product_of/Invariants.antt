use Rattle.std.proofs.Common.{length}
use Rattle.rule_check.proofs.occurrence.+product_of.Given as goal

abbrev pub decreases-product_of : goal.decreases-product_of
decreases-product_of g l = length l.arguments.rest.now
