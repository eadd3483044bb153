use Rattle.std.proofs.Common.{◌≡◌, [], ◌∷◌, length, map}
use Rattle.dk_model.specs.Trees.{tree}
use Rattle.dk_model.specs.Signatures.{maybe_tree}
use Rattle.signature_log.specs.Versions.{entries_of}
use Rattle.checked_steps.specs.Checked.{solutions_taken}
use Rattle.tree_steps.specs.Items.{left_of}
use Rattle.tree_steps.specs.Views.{pair, bindings}
use Rattle.tree_steps.proofs.items.ItemsLeft.next_solution.Given as goal

abbrev pub invariant-loop-sides : goal.invariant-loop-sides
invariant-loop-sides l =
    solutions_taken (entries_of l.fn.version) (left_of l.self) (bindings l.bindings) (map pair l.pending)
    ≡ solutions_taken (entries_of l.fn.version) (left_of l.fn.self) (map maybe_tree l.fn.bindings) ((tree l.fn.first, tree l.fn.second) ∷ [])

abbrev pub decreases-loop-sides : goal.decreases-loop-sides
decreases-loop-sides l = length l.self.items.now
