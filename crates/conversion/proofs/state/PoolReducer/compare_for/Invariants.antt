use Rattle.std.proofs.Common.{[], ◌≡◌, ◌≤◌, ◌+◌, length}
use Rattle.shared_term.specs.Pools.{Extends}
use Rattle.signature_log.specs.Versions.{entries_of}
use Rattle.conversion.specs.Pending.{IsLook, IsUnderWay, look_made, look_due, look_rank}
use Rattle.conversion.specs.Reducers.{Serves}
use Rattle.conversion.proofs.state.PoolReducer.compare_for.Given as goal

abbrev pub invariant-loop-work : goal.invariant-loop-work
invariant-loop-work l = record {
  look : IsLook (length l.self.pool) l.look;
  way : IsUnderWay (entries_of l.version) l.self.pool (look_due (entries_of l.version) l.fn.self.pool l.fn.look l.fn.left l.fn.work.items)
      (look_made (entries_of l.version) l.self.pool l.look l.left) l.left l.work.items;
  stack : l.stack.items ≡ [];
  keeps : Extends l.fn.self.pool l.self.pool;
  serves : Serves (entries_of l.version) l.self;
  less : l.left ≤ l.fn.left;
  rank : l.left + look_rank l.look ≤ l.fn.left + look_rank l.fn.look;
}

abbrev pub decreases-loop-work : goal.decreases-loop-work
decreases-loop-work l = l.left
