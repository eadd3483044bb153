use Rattle.dk_lexer.proofs.FirstBytes.{begins_nothing}
use Rattle.dk_lexer.proofs.words.kind_of.Goals as goal

pub returns-in-None : goal.returns-in-None
returns-in-None c = begins_nothing c.args.text.now c.in-None.ensures.value
