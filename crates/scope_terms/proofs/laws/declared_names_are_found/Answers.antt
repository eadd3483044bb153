use Rattle.scope_terms.proofs.Found.{names_found, none_found}
use Rattle.scope_terms.proofs.laws.declared_names_are_found.Goals as goal

pub returns-clause-none : goal.returns-clause-none
returns-clause-none c = none_found

pub returns-clause-after : goal.returns-clause-after
returns-clause-after c = names_found
