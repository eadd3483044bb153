use Rattle.scope_terms.proofs.Numbers.{number_of-added, number_of-kept, number_of-others}
use Rattle.scope_terms.proofs.laws.names_keep_their_numbers.Goals as goal

pub returns-clause-added : goal.returns-clause-added
returns-clause-added c = number_of-added

pub returns-clause-kept : goal.returns-clause-kept
returns-clause-kept c = number_of-kept

pub returns-clause-others : goal.returns-clause-others
returns-clause-others c = number_of-others
