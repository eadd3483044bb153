use Rattle.std.proofs.Common.{◌≡◌, map, take}
use Rattle.dk_model.specs.Matrix.{rows_for}
use Rattle.tree_evaluation.specs.Views.{row, rule}
use Rattle.tree_evaluation.specs.Tellings.{AreFirstRows}
use Rattle.tree_evaluation.proofs.matrix.rows_for.Given as goal

abbrev pub invariant-loop-from : goal.invariant-loop-from
invariant-loop-from l = record {
  shown : map row l.rows.items ≡ rows_for l.count l.width (map rule (take l.from l.rules));
  first : AreFirstRows l.width l.count l.rules l.rows.items;
}
