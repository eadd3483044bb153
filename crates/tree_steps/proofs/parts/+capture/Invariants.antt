use Rattle.std.proofs.Common.{length}
use Rattle.tree_steps.proofs.parts.+capture.Given as goal

abbrev pub decreases-capture : goal.decreases-capture
decreases-capture l = length l.parts.now
