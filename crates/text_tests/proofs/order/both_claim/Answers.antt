use Rattle.std.proofs.Common.{arith}
use Rattle.text_tests.proofs.order.both_claim.Goals as goal

pub must_claim-requires : goal.must_claim-requires
must_claim-requires g c = c.requires 1

pub must_claim-requires-2 : goal.must_claim-requires-2
must_claim-requires-2 g c = c.must_claim.ensures.idle 2 (λ e. omega arith) (c.requires 2)

pub returns-clause-holds : goal.returns-clause-holds
returns-clause-holds g c = (c.must_claim-2.ensures.others 1 1 (λ e. omega arith) c.must_claim.ensures.holds, c.must_claim-2.ensures.holds)

pub returns-clause-others : goal.returns-clause-others
returns-clause-others g c = λ u one two. c.must_claim-2.ensures.idle u two (c.must_claim.ensures.idle u one (c.requires u))
