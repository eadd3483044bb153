use Rattle.std.proofs.Common.{◌≡◌, ◌<◌, length, vec_len}
use Rattle.dk_model.specs.Trees.{tree}
use Rattle.shared_term.specs.Pools.{term, Extends}
use Rattle.conversion.specs.Machine.{wound}
use Rattle.dk_model.specs.Winding.{behind_references, size, total_size}
use Rattle.conversion.proofs.loading.+loaded.Given as goal

abbrev pub decreases-loaded : goal.decreases-loaded
decreases-loaded l = size (tree l.it.now)

abbrev pub invariant-loop-argument : goal.invariant-loop-argument
invariant-loop-argument l = record {
  same : wound (term l.pool l.whole) (behind_references l.arguments.items) ≡ tree l.fn.it;
  there : l.whole.0 < length l.pool;
  keeps : Extends l.fn.pool l.pool;
  smaller : total_size (behind_references l.arguments.items) < size (tree l.fn.it);
}

abbrev pub decreases-loop-argument : goal.decreases-loop-argument
decreases-loop-argument l = vec_len l.arguments
