use Rattle.term_print.proofs.ReadBack.{read_back}
use Rattle.term_print.proofs.laws.reading_law.Goals as goal

pub returns : goal.returns
returns c = read_back
