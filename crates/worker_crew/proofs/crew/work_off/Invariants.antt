use Rattle.std.proofs.Common.{◌≡◌, ◌-◌, All, take, drop, vec_len, vec_capacity}
use Rattle.task_board.specs.Passes.{IsIdle, IsOver}
use Rattle.worker_crew.proofs.crew.work_off.Given as goal

abbrev pub invariant-loop-turn : goal.invariant-loop-turn
invariant-loop-turn g l = record {
  count : vec_len l.passes ≡ l.count;
  room : vec_capacity l.passes ≡ vec_capacity l.initial.passes;
  waiting : All (λ p. (p.seat.table_id ≡ l.board) × IsIdle p.seat.me.0) (take (l.count - l.turn) l.passes.items);
  over : All (λ p. (p.seat.table_id ≡ l.board) × IsIdle p.seat.me.0 × IsOver p.seat.me.0) (drop (l.count - l.turn) l.passes.items);
}
