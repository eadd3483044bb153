use Rattle.term_print.proofs.Asking.{type_asked, value_asked}
use Rattle.term_print.proofs.laws.asking_law.Goals as goal

pub returns-clause-value : goal.returns-clause-value
returns-clause-value c = value_asked

pub returns-clause-typ : goal.returns-clause-typ
returns-clause-typ c = type_asked
