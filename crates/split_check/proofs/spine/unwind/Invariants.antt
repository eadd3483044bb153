use Rattle.std.proofs.Common.{◌≡◌, map}
use Rattle.dk_model.specs.Signatures.{PlainSignature}
use Rattle.signature_log.specs.Reducers.{Keeps, OwnsParts, built, AreOwned}
use Rattle.infer_check.specs.Spine.{wound, size}
use Rattle.split_check.proofs.spine.unwind.Given as goal

abbrev pub invariant-loop-head : goal.invariant-loop-head
invariant-loop-head g l = record {
  same : wound (built g.R.Reducer.denotes l.r l.head) (map (g.R.Reducer.denotes l.r) l.arguments.items) ≡ built g.R.Reducer.denotes l.fn.r l.fn.whole;
  parts : OwnsParts g.R.Reducer.owns l.r l.head;
  arguments : AreOwned g.R.Reducer.owns l.r l.arguments.items;
  keeps : Keeps g.R.Reducer.owns g.R.Reducer.denotes l.fn.r l.r;
  serves : (S : PlainSignature) → g.R.Reducer.serves S l.fn.r → g.R.Reducer.serves S l.r;
}

abbrev pub decreases-loop-head : goal.decreases-loop-head
decreases-loop-head g l = size (built g.R.Reducer.denotes l.r l.head)
