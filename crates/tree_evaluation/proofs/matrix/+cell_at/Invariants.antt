use Rattle.std.proofs.Common.{length}
use Rattle.tree_evaluation.proofs.matrix.+cell_at.Given as goal

abbrev pub decreases-cell_at : goal.decreases-cell_at
decreases-cell_at l = length l.cells.now
