use Rattle.std.proofs.Common.{◌≡◌, ◌<◌, vec_len}
use Rattle.dk_model.specs.Trees.{tree}
use Rattle.dk_model.specs.Winding.{wound, behind_references, size, total_size}
use Rattle.pattern_compile.proofs.copies.+copied.Given as goal

abbrev pub decreases-copied : goal.decreases-copied
decreases-copied l = size (tree l.term.now)

abbrev pub invariant-loop-argument : goal.invariant-loop-argument
invariant-loop-argument l = record {
  same : wound (tree l.whole) (behind_references l.arguments.items) ≡ tree l.fn.term;
  smaller : total_size (behind_references l.arguments.items) < size (tree l.fn.term);
}

abbrev pub decreases-loop-argument : goal.decreases-loop-argument
decreases-loop-argument l = vec_len l.arguments
