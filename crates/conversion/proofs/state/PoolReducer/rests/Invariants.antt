use Rattle.std.proofs.Common.{◌<◌, length}
use Rattle.shared_term.specs.Pools.{term}
use Rattle.conversion.proofs.Resting.{IsHeadOf}
use Rattle.conversion.proofs.state.PoolReducer.rests.Given as goal

abbrev pub invariant-loop-f : goal.invariant-loop-f
invariant-loop-f l = record {
  over : IsHeadOf (term l.self.pool l.head) (term l.self.pool l.whole);
  there : l.head.0 < length l.self.pool;
}

abbrev pub decreases-loop-f : goal.decreases-loop-f
decreases-loop-f l = l.head.0
