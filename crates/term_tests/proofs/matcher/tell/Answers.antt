use Rattle.std.proofs.Common.{true, false, length}
use Rattle.term_tests.proofs.matcher.tell.Goals as goal

pub next-requires-in-Same-clause-answer : goal.next-requires-in-Same-clause-answer
next-requires-in-Same-clause-answer c = (rw c.in-Same.is at c.requires.awaits) (length c.args.pool.now) true

pub next-requires-in-Same-2-clause-answer : goal.next-requires-in-Same-2-clause-answer
next-requires-in-Same-2-clause-answer c = (rw c.in-Same-2.is at c.requires.awaits) (length c.args.pool.now) false
