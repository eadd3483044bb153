use Rattle.std.proofs.Common.{◌≡◌, ◌+◌, ◌≤◌}
use Rattle.dk_model.specs.Trees.{tree, apply}
use Rattle.dk_model.specs.Winding.{wound, behind_references, size, total_size}
use Rattle.dk_model.proofs.unwinding.spine.Given as goal

abbrev pub invariant-loop-head : goal.invariant-loop-head
invariant-loop-head l = record {
  same : wound (tree l.head) (behind_references l.arguments.items) ≡ apply (tree l.fn.f) (tree l.fn.a);
  smaller : size (tree l.head) + total_size (behind_references l.arguments.items) ≤ size (tree l.fn.f) + size (tree l.fn.a);
}
