use Rattle.std.proofs.Common.{◌≡◌, ◌++◌, map, length}
use Rattle.dk_model.specs.Signatures.{PlainSignature}
use Rattle.shared_term.specs.Storage.{stored_term}
use Rattle.signature_log.specs.Reducers.{AreOwned, Keeps}
use Rattle.split_check.proofs.context.brought.Given as goal

abbrev pub invariant-loop-term : goal.invariant-loop-term
invariant-loop-term g l = record {
  same : map (g.R.Reducer.denotes l.r) l.made ++ map stored_term l.rest ≡ map stored_term l.terms;
  own : AreOwned g.R.Reducer.owns l.r l.made;
  keeps : Keeps g.R.Reducer.owns g.R.Reducer.denotes l.fn.r l.r;
  serves : (S : PlainSignature) → g.R.Reducer.serves S l.fn.r → g.R.Reducer.serves S l.r;
}

abbrev pub decreases-loop-term : goal.decreases-loop-term
decreases-loop-term g l = length l.rest
