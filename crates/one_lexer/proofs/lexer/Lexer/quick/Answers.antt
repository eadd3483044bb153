use Rattle.one_lexer.proofs.Shorts.{knows_next}
use Rattle.one_lexer.proofs.lexer.Lexer.quick.Goals as goal

pub returns-in-Between : goal.returns-in-Between
returns-in-Between c = knows_next c.args.self.now c.args.bytes.now c.quick_token.result c.in-Between.is c.quick_token.ensures
