use Rattle.std.proofs.Common.{◌≤◌, ◌+◌, ◌*◌, length, vec_len}
use Rattle.shared_term.specs.Pools.{Extends}
use Rattle.signature_log.specs.Versions.{entries_of}
use Rattle.conversion.specs.Waiting.{IsNext, IsResumed, resumed, next_due, next_rank}
use Rattle.conversion.specs.Reducers.{Serves}
use Rattle.conversion.proofs.state.PoolReducer.normalise_on.Given as goal

abbrev pub invariant-loop-next : goal.invariant-loop-next
invariant-loop-next l = record {
  next : IsNext (length l.self.pool) l.next;
  way : IsResumed (entries_of l.version) l.self.pool
      (resumed (entries_of l.version) l.fn.self.pool l.fn.frames.items (next_due (entries_of l.version) l.fn.self.pool l.fn.next l.fn.left))
      (next_due (entries_of l.version) l.self.pool l.next l.left) l.left l.frames.items;
  keeps : Extends l.fn.self.pool l.self.pool;
  serves : Serves (entries_of l.version) l.self;
  less : l.left ≤ l.fn.left;
  taken : l.left + next_rank l.next ≤ l.fn.left + next_rank l.fn.next;
}

-- a unit for more frames than a stack holds
abbrev pub decreases-loop-next : goal.decreases-loop-next
decreases-loop-next l = 36893488147419103232 * l.left + (2 * vec_len l.frames + next_rank l.next)
