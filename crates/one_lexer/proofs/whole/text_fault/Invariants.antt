use Rattle.std.proofs.Common.{length}
use Rattle.one_lexer.proofs.Tells.{Told}
use Rattle.one_lexer.proofs.whole.text_fault.Given as goal

abbrev pub invariant-loop-left : goal.invariant-loop-left
invariant-loop-left l = Told l.fn.limits l.text l.rest l.lexer

abbrev pub decreases-loop-left : goal.decreases-loop-left
decreases-loop-left l = length l.rest
