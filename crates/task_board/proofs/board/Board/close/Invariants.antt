use Rattle.std.proofs.Common.{◌≡◌, ◌++◌, [], All, map, vec_len}
use Rattle.ticket_slot.specs.Views.{ended_of}
use Rattle.task_board.proofs.board.Board.close.Given as goal

abbrev pub invariant-loop-pass : goal.invariant-loop-pass
invariant-loop-pass g l = record {
  own : l.seat.table_id ≡ l.self-inside.slot;
  me : l.seat.me ≡ (record l.initial.seat.me.0 { ended = l.seat.me.0.ended }, []);
  joined : map (λ p. ended_of p.seat.me.0) l.passes.items ++ l.seat.me.0.ended ≡ map (λ p. ended_of p.seat.me.0) l.fn.passes;
  own_workers : All (λ p. p.seat.table_id ≡ l.self-inside.slot) l.passes.items;
}

abbrev pub decreases-loop-pass : goal.decreases-loop-pass
decreases-loop-pass g l = vec_len l.passes
