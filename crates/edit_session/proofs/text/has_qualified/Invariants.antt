use Rattle.std.proofs.Common.{length}
use Rattle.edit_session.proofs.Reading.{Looked}
use Rattle.edit_session.proofs.text.has_qualified.Given as goal

abbrev pub invariant-loop-token : goal.invariant-loop-token
invariant-loop-token l = Looked l.fn.limits l.text l.rest l.lexer

abbrev pub decreases-loop-token : goal.decreases-loop-token
decreases-loop-token l = length l.rest
