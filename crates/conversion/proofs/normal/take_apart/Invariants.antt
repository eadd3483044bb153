use Rattle.std.proofs.Common.{◌<◌, ℕ, length}
use Rattle.dk_model.specs.Trees.{Tree}
use Rattle.dk_model.specs.Signatures.{PlainSignature}
use Rattle.dk_model.specs.Units.{Units}
use Rattle.dk_model.specs.Parts.{each_normal}
use Rattle.dk_model.specs.Evaluation.{normal_of}
use Rattle.shared_term.specs.Pools.{term}
use Rattle.conversion.specs.Waiting.{IsResumed}
use Rattle.conversion.proofs.normal.take_apart.Given as goal

abbrev pub invariant-loop-function : goal.invariant-loop-function
invariant-loop-function l = record {
  same : (S : PlainSignature) (due : Units Tree) (left : ℕ)
      → IsResumed S l.pool due (each_normal (normal_of S) (term l.fn.pool l.fn.value) left) left l.fn.frames.items
      → IsResumed S l.pool due (each_normal (normal_of S) (term l.pool l.head) left) left l.frames.items;
  there : l.head.0 < length l.pool;
}

abbrev pub decreases-loop-function : goal.decreases-loop-function
decreases-loop-function l = l.head.0
