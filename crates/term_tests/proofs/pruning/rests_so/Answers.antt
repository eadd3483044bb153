-- What was asked of the commands is what `rests` asks.
use Rattle.term_tests.proofs.pruning.rests_so.Goals as goal

pub rests-requires-clause-before : goal.rests-requires-clause-before
rests-requires-clause-before c = c.in_ok-before.ensures.0 c.if-not-before.false
