use Rattle.std.proofs.Common.{arith, refl, sym}
use Rattle.one_lexer.proofs.Places.{last_all}
use Rattle.one_lexer.proofs.lexer.Lexer.steps.Goals as goal

pub loop-rest-init : goal.loop-rest-init
loop-rest-init c = record { within = omega arith; front = sym (last_all c.args.bytes.now); limits = refl; knows = λ before ts k. k }
