use Rattle.std.proofs.Common.{◌<◌, subst, sym}
use Rattle.task_board.specs.Passes.{IsOver}
use Rattle.text_tests.proofs.Somewhere.{some_of}
use Rattle.text_tests.proofs.crews.read_with_crew.Goals as goal

pub returns-clause-idle : goal.returns-clause-idle
returns-clause-idle g c = λ k d h. (c.run_crew.ensures.over k d h).1

pub returns-clause-over : goal.returns-clause-over
returns-clause-over g c = some_of (λ p. IsOver p.seat.me.0) _ (subst (λ n. 0 < n) (sym c.run_crew.ensures.count) c.requires.some) (λ k d h. (c.run_crew.ensures.over k d h).2)
