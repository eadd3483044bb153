use Rattle.std.proofs.Common.{length}
use Rattle.one_lexer.proofs.Blanks.{Passed}
use Rattle.one_lexer.proofs.blank.over_blanks.Given as goal

abbrev pub invariant-loop-byte : goal.invariant-loop-byte
invariant-loop-byte l = Passed l.last l.fn.here l.bytes l.place l.rest

abbrev pub decreases-loop-byte : goal.decreases-loop-byte
decreases-loop-byte l = length l.rest
