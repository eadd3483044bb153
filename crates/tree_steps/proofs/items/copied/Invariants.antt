use Rattle.std.proofs.Common.{◌≡◌, map, take}
use Rattle.dk_model.specs.Signatures.{maybe_tree}
use Rattle.tree_steps.specs.Views.{bindings}
use Rattle.tree_steps.proofs.items.copied.Given as goal

abbrev pub invariant-loop-binding : goal.invariant-loop-binding
invariant-loop-binding l = bindings l.copy ≡ map maybe_tree (take l.binding-index l.bindings)
