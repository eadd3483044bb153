use Rattle.one_lexer.proofs.Blanks.{knows_if}
use Rattle.one_lexer.proofs.lexer.Lexer.blanks.Goals as goal

pub returns-in-Between-clause-knows : goal.returns-in-Between-clause-knows
returns-in-Between-clause-knows c = knows_if c.args.self.now c.args.bytes.now c.in-Between.is c.pass_blanks.result c.pass_blanks.ensures.goes_over
