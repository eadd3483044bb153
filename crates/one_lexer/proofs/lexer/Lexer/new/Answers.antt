use Rattle.one_lexer.proofs.Lexers.{knows_new}
use Rattle.one_lexer.proofs.lexer.Lexer.new.Goals as goal

pub returns-clause-knows : goal.returns-clause-knows
returns-clause-knows c bytes = knows_new c.args.limits bytes
