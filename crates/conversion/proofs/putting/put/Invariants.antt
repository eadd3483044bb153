use Rattle.std.proofs.Common.{◌≡◌, ◌<◌, length}
use Rattle.shared_term.specs.Pools.{term, Extends}
use Rattle.conversion.specs.Machine.{behind, AreWithin, wound}
use Rattle.conversion.specs.Fillings.{IsFilling, put_by}
use Rattle.conversion.proofs.putting.put.Given as goal

abbrev pub invariant-loop-f : goal.invariant-loop-f
invariant-loop-f l = record {
  puts : wound (put_by l.fn.pool l.fn.filling (term l.pool l.head)) (behind l.pool l.stack.items) ≡ wound (put_by l.fn.pool l.fn.filling (term l.fn.pool l.fn.whole)) (behind l.fn.pool l.fn.stack.items);
  there : l.head.0 < length l.pool;
  stack : AreWithin (length l.pool) l.stack.items;
  filling : IsFilling (length l.pool) l.fn.filling;
  keeps : Extends l.fn.pool l.pool;
}

abbrev pub decreases-loop-f : goal.decreases-loop-f
decreases-loop-f l = l.head.0
