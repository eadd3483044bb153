use Rattle.std.proofs.Common.{length}
use Rattle.dk_model.specs.Signatures.{PlainSignature}
use Rattle.signature_log.specs.Reducers.{Keeps}
use Rattle.rule_check.specs.Bindings.{IsStill}
use Rattle.rule_check.proofs.bindings.join_levels.Given as goal

abbrev pub invariant-loop : goal.invariant-loop
invariant-loop g l = record {
  still : IsStill g.R.Reducer.owns g.R.Reducer.denotes l.fn.r l.fn.bindings l.r l.bindings;
  keeps : Keeps g.R.Reducer.owns g.R.Reducer.denotes l.fn.r l.r;
  serves : (S : PlainSignature) → g.R.Reducer.serves S l.fn.r → g.R.Reducer.serves S l.r;
}

abbrev pub decreases-loop : goal.decreases-loop
decreases-loop g l = length l.bindings.levels.items
