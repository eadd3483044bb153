use Rattle.std.proofs.Common.{length}
use Rattle.tree_terms.proofs.captures.+abstracted.Given as goal

abbrev pub decreases-abstracted : goal.decreases-abstracted
decreases-abstracted l = length l.listed.now
