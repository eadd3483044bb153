use Rattle.std.proofs.Common.{◌≡◌, ◌+◌, ◌-◌, length, map}
use Rattle.dk_model.specs.Trees.{tree}
use Rattle.dk_model.specs.Signatures.{maybe_tree}
use Rattle.dk_model.specs.Bindings.{with_binding}
use Rattle.tree_terms.proofs.bindings.with_binding.Given as goal

abbrev pub invariant-loop-bindings : goal.invariant-loop-bindings
invariant-loop-bindings l = record {
  term : l.term ≡ l.fn.term;
  same : with_binding (map maybe_tree l.bindings.items) l.fn.number (tree l.fn.term) ≡ with_binding (map maybe_tree l.fn.bindings.items) l.fn.number (tree l.fn.term);
}

abbrev pub decreases-loop-bindings : goal.decreases-loop-bindings
decreases-loop-bindings l = l.fn.number + 1 - length l.bindings.items
