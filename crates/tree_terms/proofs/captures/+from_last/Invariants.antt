use Rattle.std.proofs.Common.{length}
use Rattle.tree_terms.proofs.captures.+from_last.Given as goal

abbrev pub decreases-from_last : goal.decreases-from_last
decreases-from_last l = length l.terms.now
