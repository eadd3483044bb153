use Rattle.std.proofs.Common.{ℕ, subst}
use Rattle.one_lexer.specs.Blanks.{GoesOver}
use Rattle.one_lexer.specs.Reading.{last_of}
use Rattle.one_lexer.proofs.blank.pass_blanks.Goals as goal

pub returns-then-left-bytes-clause-goes_over : goal.returns-then-left-bytes-clause-goes_over
returns-then-left-bytes-clause-goes_over c =
    subst (λ (n : ℕ). GoesOver n c.args.at.here c.args.bytes.now c.over_blanks-left.result.0 (last_of c.over_blanks-left.result.1 c.args.bytes.now)) c.bound_of-last.ensures.last c.over_blanks-left.ensures.goes_over
