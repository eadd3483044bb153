use Rattle.std.proofs.Common.{◌≡◌, map, take}
use Rattle.dk_model.specs.Matrix.{refined_rows}
use Rattle.tree_evaluation.specs.Views.{row, tree}
use Rattle.tree_evaluation.specs.Tellings.{AreRefined}
use Rattle.tree_evaluation.proofs.matrix.refined_rows.Given as goal

abbrev pub invariant-loop-from : goal.invariant-loop-from
invariant-loop-from l = record {
  shown : map row l.kept.items ≡ refined_rows (tree l.value) l.count l.at (map row (take l.from l.rows));
  refined : AreRefined (tree l.value) l.count l.at l.rows l.kept.items;
}
