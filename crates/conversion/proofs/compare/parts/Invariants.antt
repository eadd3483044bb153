use Rattle.std.proofs.Common.{◌<◌, ℕ, length, Bool}
use Rattle.dk_model.specs.Signatures.{PlainSignature}
use Rattle.dk_model.specs.Units.{Units}
use Rattle.shared_term.specs.Pools.{term}
use Rattle.conversion.specs.Pending.{IsUnderWay, parts_compared}
use Rattle.conversion.proofs.compare.parts.Given as goal

abbrev pub invariant-loop-f : goal.invariant-loop-f
invariant-loop-f l = record {
  same : (S : PlainSignature) (due : Units Bool) (left : ℕ)
      → IsUnderWay S l.pool due (parts_compared S (term l.fn.pool l.fn.t) (term l.fn.pool l.fn.u) left) left l.fn.work.items
      → IsUnderWay S l.pool due (parts_compared S (term l.pool l.t) (term l.pool l.u) left) left l.work.items;
  there : l.t.0 < length l.pool;
  other : l.u.0 < length l.pool;
}

abbrev pub decreases-loop-f : goal.decreases-loop-f
decreases-loop-f l = l.t.0
