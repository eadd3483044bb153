use Rattle.std.proofs.Common.{◌≡◌, ◌+◌, ◌≤◌, All, vec_len, vec_capacity}
use Rattle.task_board.specs.Passes.{IsIdle, IsOver}
use Rattle.worker_crew.proofs.crew.fn.run_crew.scope.Given as goal

abbrev pub invariant-loop-stack : goal.invariant-loop-stack
invariant-loop-stack g l = record {
  waiting : All (λ p. (p.seat.table_id ≡ l.board) × IsIdle p.seat.me.0) l.passes.items;
  refused : All (λ f. (f.1.now ≡ l.board) × (f.2.seat.table_id ≡ l.board) × IsIdle f.2.seat.me.0) l.late.items;
  started : All (λ h. h.promise.given.value.seat.table_id ≡ l.board) l.handles.items;
  count : vec_len l.passes + vec_len l.late + vec_len l.handles ≡ vec_len l.initial.passes;
  room : vec_len l.initial.passes ≤ vec_capacity l.passes;
  late_room : vec_len l.initial.passes ≤ vec_capacity l.late;
  handles_room : vec_len l.initial.passes ≤ vec_capacity l.handles;
}

abbrev pub decreases-loop-stack : goal.decreases-loop-stack
decreases-loop-stack g l = vec_len l.passes

abbrev pub invariant-loop-worker : goal.invariant-loop-worker
invariant-loop-worker g l = record {
  refused : All (λ f. (f.1.now ≡ l.board) × (f.2.seat.table_id ≡ l.board) × IsIdle f.2.seat.me.0) l.late.items;
  over : All (λ p. (p.seat.table_id ≡ l.board) × IsIdle p.seat.me.0 × IsOver p.seat.me.0) l.passes.items;
  count : vec_len l.passes + vec_len l.late ≡ vec_len l.initial.passes + vec_len l.initial.late;
  room : vec_capacity l.passes ≡ vec_capacity l.initial.passes;
}

abbrev pub decreases-loop-worker : goal.decreases-loop-worker
decreases-loop-worker g l = vec_len l.late

abbrev pub invariant-loop-child : goal.invariant-loop-child
invariant-loop-child g l = record {
  started : All (λ h. h.promise.given.value.seat.table_id ≡ l.board) l.handles.items;
  over : All (λ p. (p.seat.table_id ≡ l.board) × IsIdle p.seat.me.0 × IsOver p.seat.me.0) l.passes.items;
  count : vec_len l.passes + vec_len l.handles ≡ vec_len l.initial.passes + vec_len l.initial.handles;
  room : vec_capacity l.passes ≡ vec_capacity l.initial.passes;
}

abbrev pub decreases-loop-child : goal.decreases-loop-child
decreases-loop-child g l = vec_len l.handles
