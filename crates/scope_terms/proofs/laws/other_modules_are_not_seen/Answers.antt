use Rattle.scope_terms.proofs.Plain.{plain_scoped, own_after, others_after}
use Rattle.scope_terms.proofs.laws.other_modules_are_not_seen.Goals as goal

pub returns-clause-scoped : goal.returns-clause-scoped
returns-clause-scoped c = plain_scoped

pub returns-clause-own : goal.returns-clause-own
returns-clause-own c = own_after

pub returns-clause-others : goal.returns-clause-others
returns-clause-others c = others_after
