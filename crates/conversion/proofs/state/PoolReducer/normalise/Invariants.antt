use Rattle.std.proofs.Common.{◌≤◌, length}
use Rattle.dk_model.specs.Evaluation.{normal_of}
use Rattle.shared_term.specs.Pools.{term, Extends}
use Rattle.signature_log.specs.Versions.{entries_of}
use Rattle.conversion.specs.Waiting.{IsNext, IsResumed, next_due}
use Rattle.conversion.specs.Reducers.{Serves}
use Rattle.conversion.proofs.state.PoolReducer.normalise.Given as goal

abbrev pub invariant-loop-frames : goal.invariant-loop-frames
invariant-loop-frames l = record {
  next : IsNext (length l.self.pool) l.next;
  way : IsResumed (entries_of l.version) l.self.pool (normal_of (entries_of l.version) l.fn.left (term l.fn.self.pool l.fn.whole))
      (next_due (entries_of l.version) l.self.pool l.next l.left) l.left l.frames.items;
  keeps : Extends l.fn.self.pool l.self.pool;
  serves : Serves (entries_of l.version) l.self;
  less : l.left ≤ l.fn.left;
}

abbrev pub decreases-loop-frames : goal.decreases-loop-frames
decreases-loop-frames l = l.left
