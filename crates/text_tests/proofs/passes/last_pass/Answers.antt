use Rattle.std.proofs.Common.{◌≡◌}
use Rattle.task_board.specs.Passes.{IsIdle}
use Rattle.task_board.proofs.Alls.{all_take}
use Rattle.text_tests.proofs.passes.last_pass.Goals as goal

pub returns-clause-last : goal.returns-clause-last
returns-clause-last g c = (all_take (λ p. (p.seat.table_id ≡ c.args.board.now) × IsIdle p.seat.me.0) _ _ _ c.in-Some.ensures.items c.requires).1

pub returns-clause-rest : goal.returns-clause-rest
returns-clause-rest g c = (all_take (λ p. (p.seat.table_id ≡ c.args.board.now) × IsIdle p.seat.me.0) _ _ _ c.in-Some.ensures.items c.requires).0
