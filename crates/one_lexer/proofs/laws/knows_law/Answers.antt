use Rattle.one_lexer.proofs.Lexers.{knows_more, knows_over}
use Rattle.one_lexer.proofs.laws.knows_law.Goals as goal

pub returns-clause-more : goal.returns-clause-more
returns-clause-more c = knows_more

pub returns-clause-over : goal.returns-clause-over
returns-clause-over c = knows_over
