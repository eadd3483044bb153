use Rattle.std.proofs.Common.{◌≡◌, ◌≤◌, ◌+◌, ◌*◌, length, vec_len}
use Rattle.signature_log.specs.Versions.{entries_of}
use Rattle.conversion.specs.Pending.{IsLook, IsUnderWay, look_due, look_made, look_rank}
use Rattle.conversion.specs.Reducers.{Serves}
use Rattle.conversion.proofs.state.PoolReducer.compare_on.Given as goal

abbrev pub invariant-loop-look : goal.invariant-loop-look
invariant-loop-look l = record {
  look : IsLook (length l.self.pool) l.look;
  way : IsUnderWay (entries_of l.version) l.self.pool (look_due (entries_of l.version) l.fn.self.pool l.fn.look l.fn.left l.fn.work.items)
      (look_made (entries_of l.version) l.self.pool l.look l.left) l.left l.work.items;
  pool : l.self.pool ≡ l.fn.self.pool;
  serves : Serves (entries_of l.version) l.self;
  less : l.left ≤ l.fn.left;
  taken : l.left + look_rank l.look ≤ l.fn.left + look_rank l.fn.look;
}

-- a unit for more steps than a stack holds
abbrev pub decreases-loop-look : goal.decreases-loop-look
decreases-loop-look l = 36893488147419103232 * l.left + (2 * vec_len l.work + look_rank l.look)
