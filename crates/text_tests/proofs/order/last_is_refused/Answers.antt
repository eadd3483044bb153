use Rattle.std.proofs.Common.{arith}
use Rattle.text_tests.proofs.order.last_is_refused.Goals as goal

pub returns-clause-holds : goal.returns-clause-holds
returns-clause-holds g c = c.answer-2.ensures.others 2 2 (λ e. omega arith) (c.must_claim.ensures.others 2 2 (λ e. omega arith) (c.answer.ensures.others 2 2 (λ e. omega arith) c.requires.1))

pub returns-clause-others : goal.returns-clause-others
returns-clause-others g c = λ u one none. c.answer-2.ensures.still u (c.must_claim.ensures.idle u one (c.answer.ensures.still u none))
