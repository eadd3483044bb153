use Rattle.std.proofs.Common.{◌≡◌, ◌++◌}
use Rattle.dk_model.specs.RuleTypingOver.{outermost_first}
use Rattle.tree_rules.proofs.variables.outermost_first.Given as goal

abbrev pub invariant-loop-left : goal.invariant-loop-left
invariant-loop-left l = l.variables ++ outermost_first l.left ≡ outermost_first l.fn.depth

abbrev pub decreases-loop-left : goal.decreases-loop-left
decreases-loop-left l = l.left
