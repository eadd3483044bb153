use Rattle.std.proofs.Common.{vec_len}
use Rattle.dk_model.specs.Signatures.{PlainSignature}
use Rattle.conversion.specs.Trees.{AreTrees, AreListed}
use Rattle.conversion.proofs.trees.Trees.put_all.Given as goal

abbrev pub invariant-loop-other : goal.invariant-loop-other
invariant-loop-other l = (S : PlainSignature) → AreTrees S l.fn.self → AreTrees S l.fn.others → AreTrees S l.self × AreListed S l.others.items

abbrev pub decreases-loop-other : goal.decreases-loop-other
decreases-loop-other l = vec_len l.others
