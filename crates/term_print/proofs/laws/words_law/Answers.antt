use Rattle.term_print.proofs.Worded.{words_declared}
use Rattle.term_print.proofs.laws.words_law.Goals as goal

pub returns : goal.returns
returns c = words_declared
