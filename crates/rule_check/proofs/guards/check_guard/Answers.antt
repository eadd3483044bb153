use Rattle.std.proofs.Common.{ap}
use Rattle.rule_check.proofs.guards.check_guard.Goals as goal

pub check-fits-requires-clause-ready : goal.check-fits-requires-clause-ready
check-fits-requires-clause-ready g c = record { context = record { rule_vars = c.requires.types; bound = c.requires.guard.bound }; serving = c.requires.serves }

pub returns-clause-gives : goal.returns-clause-gives
returns-clause-gives g c = (c.in_ok-fits.ensures.gives, ap (λ y. y.rule_vars) c.check-fits.ensures.continues.context)
