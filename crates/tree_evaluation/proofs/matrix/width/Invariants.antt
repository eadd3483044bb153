use Rattle.std.proofs.Common.{◌≡◌, map, drop, max}
use Rattle.dk_model.specs.Matrix.{width}
use Rattle.tree_evaluation.specs.Views.{rule}
use Rattle.tree_evaluation.proofs.matrix.width.Given as goal

abbrev pub invariant-loop-rule : goal.invariant-loop-rule
invariant-loop-rule l = max l.width (width l.count (map rule (drop l.rule-index l.rules))) ≡ width l.count (map rule l.rules)
