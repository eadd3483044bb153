use Rattle.dk_model.specs.Signatures.{PlainSignature}
use Rattle.signature_log.specs.Reducers.{Keeps, Makes}
use Rattle.rule_check.specs.Founds.{types_of}
use Rattle.rule_check.specs.Levels.{rounds}
use Rattle.rule_check.proofs.bindings.under.Given as goal

abbrev pub invariant-loop : goal.invariant-loop
invariant-loop g l = record {
  makes : Makes g.R.Reducer.owns g.R.Reducer.denotes l.r (rounds (types_of g.R.Reducer.denotes l.fn.r l.fn.bindings.terms.items) l.counter (g.R.Reducer.denotes l.fn.r l.fn.term)) l.term;
  keeps : Keeps g.R.Reducer.owns g.R.Reducer.denotes l.fn.r l.r;
  serves : (S : PlainSignature) → g.R.Reducer.serves S l.fn.r → g.R.Reducer.serves S l.r;
}
