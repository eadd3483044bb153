use Rattle.std.proofs.Common.{◌≡◌, ◌+◌, ◌≤◌, [], All, length, vec_len, vec_capacity}
use Rattle.task_board.specs.Passes.{IsNew, new_reader}
use Rattle.task_board.proofs.board.Board.new.Given as goal

abbrev pub invariant-loop-place : goal.invariant-loop-place
invariant-loop-place g l = record {
  own : l.seat.table_id ≡ l.slot;
  me : l.seat.me ≡ (new_reader (l.place + 1), []);
  count : vec_len l.passes ≡ l.place;
  made : length l.passes.items ≡ l.place;
  room : l.workers ≤ vec_capacity l.passes;
  own_workers : All (λ p. p.seat.table_id ≡ l.slot) l.passes.items;
  new_workers : All (λ p. IsNew p.seat.me.0) l.passes.items;
}
