use Rattle.std.proofs.Common.{length}
use Rattle.tree_evaluation.proofs.matrix.+rigid_at.Given as goal

abbrev pub decreases-rigid_at : goal.decreases-rigid_at
decreases-rigid_at l = length l.cells.now
