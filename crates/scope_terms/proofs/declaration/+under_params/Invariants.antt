use Rattle.std.proofs.Common.{length}
use Rattle.scope_terms.proofs.declaration.+under_params.Given as goal

abbrev pub decreases-under_params : goal.decreases-under_params
decreases-under_params l = length l.params.now
