use Rattle.std.proofs.Common.{length}
use Rattle.term_tests.proofs.matcher.selects.Goals as goal

pub next-requires-clause-within : goal.next-requires-clause-within
next-requires-clause-within c = c.in_ok-matcher.ensures.within (length c.args.pool.now) c.requires.within
