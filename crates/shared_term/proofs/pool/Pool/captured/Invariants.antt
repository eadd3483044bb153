-- As many binders as there were turns.
use Rattle.std.proofs.Common.{◌≡◌, ◌<◌, take, length}
use Rattle.dk_model.specs.Captures.{abstracted, renamed}
use Rattle.shared_term.specs.Pools.{term, Extends}
use Rattle.shared_term.proofs.pool.Pool.captured.Given as goal

abbrev pub invariant-loop-binder : goal.invariant-loop-binder
invariant-loop-binder l = record {
  keeps : Extends l.fn.self l.self;
  there : l.part.0 < length l.self;
  is : term l.self l.part ≡ abstracted (take l._binder l.arguments) (renamed 0 l.bound l.arguments (term l.fn.self l.fn.id));
}
