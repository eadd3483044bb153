use Rattle.one_lexer.proofs.FrontLaw.{tokens_front}
use Rattle.one_lexer.proofs.laws.front_law.Goals as goal

pub returns : goal.returns
returns c = tokens_front
