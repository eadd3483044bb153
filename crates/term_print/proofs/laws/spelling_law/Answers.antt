use Rattle.term_print.proofs.Spells.{term_spelled}
use Rattle.term_print.proofs.laws.spelling_law.Goals as goal

pub returns : goal.returns
returns c = term_spelled
