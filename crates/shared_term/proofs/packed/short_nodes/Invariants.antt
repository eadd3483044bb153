-- The nodes so far stand in the list, each as a short one.
use Rattle.std.proofs.Common.{◌≡◌, map, take}
use Rattle.shared_term.specs.Packing.{full_node}
use Rattle.shared_term.proofs.packed.short_nodes.Given as goal

abbrev pub invariant-loop-node : goal.invariant-loop-node
invariant-loop-node l = map full_node l.all.items ≡ take l.node-index l.nodes
