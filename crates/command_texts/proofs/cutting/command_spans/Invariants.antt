use Rattle.std.proofs.Common.{length}
use Rattle.command_texts.proofs.Adding.{HasCut}
use Rattle.command_texts.proofs.cutting.command_spans.Given as goal

abbrev pub invariant-loop-token : goal.invariant-loop-token
invariant-loop-token l = HasCut l.fn.limits l.bytes l.rest l.lexer l.texts

abbrev pub decreases-loop-token : goal.decreases-loop-token
decreases-loop-token l = length l.rest
