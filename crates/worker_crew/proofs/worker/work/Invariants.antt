use Rattle.std.proofs.Common.{◌≡◌}
use Rattle.task_board.specs.Passes.{IsIdle}
use Rattle.worker_crew.proofs.worker.work.Given as goal

abbrev pub invariant-loop : goal.invariant-loop
invariant-loop g l = record {
  own : l.pass.seat.table_id ≡ l.board;
  number : l.pass.number ≡ l.initial.pass.number;
  idle : IsIdle l.pass.seat.me.0;
}
