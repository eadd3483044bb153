use Rattle.std.proofs.Common.{◌≡◌, None, replicate}
use Rattle.tree_evaluation.specs.Views.{captures_of}
use Rattle.tree_evaluation.proofs.select.nothing_captured.Given as goal

abbrev pub invariant-loop-i : goal.invariant-loop-i
invariant-loop-i l = captures_of l.captures ≡ replicate l._i None
