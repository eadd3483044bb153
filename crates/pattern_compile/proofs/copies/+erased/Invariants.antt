use Rattle.std.proofs.Common.{◌≡◌, ◌<◌, map, vec_len}
use Rattle.dk_model.specs.Trees.{tree}
use Rattle.dk_model.specs.Erasure.{erased}
use Rattle.dk_model.specs.Winding.{wound, behind_references, size, total_size}
use Rattle.pattern_compile.proofs.copies.+erased.Given as goal

abbrev pub decreases-erased : goal.decreases-erased
decreases-erased l = size (tree l.term.now)

abbrev pub invariant-loop-argument : goal.invariant-loop-argument
invariant-loop-argument l = record {
  same : wound (tree l.whole) (map erased (behind_references l.arguments.items)) ≡ erased (tree l.fn.term);
  smaller : total_size (behind_references l.arguments.items) < size (tree l.fn.term);
}

abbrev pub decreases-loop-argument : goal.decreases-loop-argument
decreases-loop-argument l = vec_len l.arguments
