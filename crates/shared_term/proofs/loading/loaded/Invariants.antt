-- The nodes so far stand in the pool.
use Rattle.std.proofs.Common.{◌≡◌, length}
use Rattle.shared_term.specs.Pools.{Extends}
use Rattle.shared_term.specs.Storage.{AreLoaded}
use Rattle.shared_term.proofs.loading.loaded.Given as goal

abbrev pub invariant-loop-at : goal.invariant-loop-at
invariant-loop-at l = record {
  count : length l.places.items ≡ l.at;
  loaded : AreLoaded l.stored.0 l.pool l.places.items;
  keeps : Extends l.fn.pool l.pool;
}
