use Rattle.term_print.proofs.Scoped.{term_scoped}
use Rattle.term_print.proofs.laws.scoping_law.Goals as goal

pub returns : goal.returns
returns c = term_scoped
