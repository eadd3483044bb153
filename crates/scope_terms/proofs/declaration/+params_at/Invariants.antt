use Rattle.std.proofs.Common.{length}
use Rattle.scope_terms.proofs.declaration.+params_at.Given as goal

abbrev pub decreases-params_at : goal.decreases-params_at
decreases-params_at l = length l.params.now
