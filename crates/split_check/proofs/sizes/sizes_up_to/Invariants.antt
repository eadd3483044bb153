use Rattle.dk_model.specs.Signatures.{PlainSignature}
use Rattle.signature_log.specs.Reducers.{AreOwned, Keeps}
use Rattle.std.proofs.Common.{length}
use Rattle.split_check.proofs.sizes.sizes_up_to.Given as goal

abbrev pub invariant-loop-argument : goal.invariant-loop-argument
invariant-loop-argument g l = record {
  own : AreOwned g.R.Reducer.owns l.r l.rest;
  keeps : Keeps g.R.Reducer.owns g.R.Reducer.denotes l.fn.r l.r;
  serves : (S : PlainSignature) → g.R.Reducer.serves S l.fn.r → g.R.Reducer.serves S l.r;
}

abbrev pub decreases-loop-argument : goal.decreases-loop-argument
decreases-loop-argument g l = length l.rest
