use Rattle.std.proofs.Common.{◌≤◌, length}
use Rattle.dk_model.specs.Evaluation.{comparison_of}
use Rattle.shared_term.specs.Pools.{term, Extends}
use Rattle.signature_log.specs.Versions.{entries_of}
use Rattle.conversion.specs.Pending.{IsLook, IsUnderWay, look_made}
use Rattle.conversion.specs.Reducers.{Serves}
use Rattle.conversion.proofs.state.PoolReducer.compare.Given as goal

abbrev pub invariant-loop-work : goal.invariant-loop-work
invariant-loop-work l = record {
  look : IsLook (length l.self.pool) l.look;
  way : IsUnderWay (entries_of l.version) l.self.pool (comparison_of (entries_of l.version) l.fn.left (term l.fn.self.pool l.fn.t) (term l.fn.self.pool l.fn.u))
      (look_made (entries_of l.version) l.self.pool l.look l.left) l.left l.work.items;
  keeps : Extends l.fn.self.pool l.self.pool;
  serves : Serves (entries_of l.version) l.self;
  less : l.left ≤ l.fn.left;
}

abbrev pub decreases-loop-work : goal.decreases-loop-work
decreases-loop-work l = l.left
