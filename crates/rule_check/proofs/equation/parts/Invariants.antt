use Rattle.std.proofs.Common.{◌≡◌, []}
use Rattle.dk_model.specs.Signatures.{PlainSignature}
use Rattle.signature_log.specs.Versions.{entries_of}
use Rattle.signature_log.specs.Reducers.{Keeps, OwnsParts, built}
use Rattle.infer_check.specs.Spine.{size}
use Rattle.rule_check.specs.Equations.{pending, divided, OwnsEquations}
use Rattle.rule_check.proofs.equation.parts.Given as goal

abbrev pub invariant-loop-one : goal.invariant-loop-one
invariant-loop-one g l = record {
  same : divided (entries_of l.fn.version) (built g.R.Reducer.denotes l.r l.one) (built g.R.Reducer.denotes l.r l.other) (pending g.R.Reducer.denotes l.r l.arguments.items)
      ≡ divided (entries_of l.fn.version) (g.R.Reducer.denotes l.fn.r l.fn.one) (g.R.Reducer.denotes l.fn.r l.fn.other) [];
  arguments : OwnsEquations g.R.Reducer.owns l.r l.arguments.items;
  one : OwnsParts g.R.Reducer.owns l.r l.one;
  other : OwnsParts g.R.Reducer.owns l.r l.other;
  keeps : Keeps g.R.Reducer.owns g.R.Reducer.denotes l.fn.r l.r;
  serves : (S : PlainSignature) → g.R.Reducer.serves S l.fn.r → g.R.Reducer.serves S l.r;
}

abbrev pub decreases-loop-one : goal.decreases-loop-one
decreases-loop-one g l = size (built g.R.Reducer.denotes l.r l.one)
