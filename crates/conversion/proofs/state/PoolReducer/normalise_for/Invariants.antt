use Rattle.std.proofs.Common.{[], ◌≡◌, ◌≤◌, ◌+◌, length}
use Rattle.shared_term.specs.Pools.{Extends}
use Rattle.signature_log.specs.Versions.{entries_of}
use Rattle.conversion.specs.Waiting.{IsNext, IsResumed, resumed, next_due, next_rank}
use Rattle.conversion.specs.Reducers.{Serves}
use Rattle.conversion.proofs.state.PoolReducer.normalise_for.Given as goal

abbrev pub invariant-loop-frames : goal.invariant-loop-frames
invariant-loop-frames l = record {
  next : IsNext (length l.self.pool) l.next;
  way : IsResumed (entries_of l.version) l.self.pool
      (resumed (entries_of l.version) l.fn.self.pool l.fn.frames.items (next_due (entries_of l.version) l.fn.self.pool l.fn.next l.fn.left))
      (next_due (entries_of l.version) l.self.pool l.next l.left) l.left l.frames.items;
  stack : l.stack.items ≡ [];
  keeps : Extends l.fn.self.pool l.self.pool;
  serves : Serves (entries_of l.version) l.self;
  less : l.left ≤ l.fn.left;
  rank : l.left + next_rank l.next ≤ l.fn.left + next_rank l.fn.next;
}

abbrev pub decreases-loop-frames : goal.decreases-loop-frames
decreases-loop-frames l = l.left
