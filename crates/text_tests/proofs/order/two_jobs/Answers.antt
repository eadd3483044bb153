use Rattle.std.proofs.Common.{rules}
use Rattle.board_core.specs.Machine.{HoldsNone}
use Rattle.text_tests.proofs.order.two_jobs.Goals as goal

pub returns-clause-idle : goal.returns-clause-idle
returns-clause-idle g c = λ w. let none : HoldsNone w c.expect-book.result.events = search rules in c.put-2.ensures.idle w (c.put.ensures.idle w none)
