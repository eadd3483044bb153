use Rattle.dk_model.specs.Signatures.{PlainSignature}
use Rattle.signature_log.specs.Reducers.{AreOwned, Keeps}
use Rattle.std.proofs.Common.{◌-◌, ◌^◌, ◌<◌}
use Rattle.split_check.proofs.sizes.sizes.Given as goal

abbrev pub invariant-loop-most : goal.invariant-loop-most
invariant-loop-most g l = record {
  some : 0 < l.most;
  own : AreOwned g.R.Reducer.owns l.r l.arguments;
  keeps : Keeps g.R.Reducer.owns g.R.Reducer.denotes l.fn.r l.r;
  serves : (S : PlainSignature) → g.R.Reducer.serves S l.fn.r → g.R.Reducer.serves S l.r;
}

abbrev pub decreases-loop-most : goal.decreases-loop-most
decreases-loop-most g l = 2 ^ 40 - l.most
