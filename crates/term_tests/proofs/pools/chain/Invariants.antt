-- The chain stands in the pool.
use Rattle.std.proofs.Common.{◌<◌, length}
use Rattle.shared_term.specs.Pools.{Extends}
use Rattle.term_tests.proofs.pools.chain.Given as goal

abbrev pub invariant-loop-step : goal.invariant-loop-step
invariant-loop-step l = record { within : l.id.0 < length l.pool; keeps : Extends l.fn.pool l.pool }
