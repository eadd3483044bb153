use Rattle.std.proofs.Common.{◌≡◌}
use Rattle.dk_model.specs.Signatures.{PlainSignature}
use Rattle.dk_model.specs.Spines.{head}
use Rattle.signature_log.specs.Reducers.{Keeps, OwnsParts, built}
use Rattle.infer_check.specs.Spine.{size}
use Rattle.rule_check.proofs.equation.is_rigid.Given as goal

abbrev pub invariant-loop-node : goal.invariant-loop-node
invariant-loop-node g l = record {
  same : head (built g.R.Reducer.denotes l.r l.node) ≡ head (built g.R.Reducer.denotes l.fn.r l.fn.node);
  own : OwnsParts g.R.Reducer.owns l.r l.node;
  keeps : Keeps g.R.Reducer.owns g.R.Reducer.denotes l.fn.r l.r;
  serves : (S : PlainSignature) → g.R.Reducer.serves S l.fn.r → g.R.Reducer.serves S l.r;
}

abbrev pub decreases-loop-node : goal.decreases-loop-node
decreases-loop-node g l = size (built g.R.Reducer.denotes l.r l.node)
