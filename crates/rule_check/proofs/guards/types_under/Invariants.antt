use Rattle.std.proofs.Common.{◌≡◌, ◌++◌, length, map}
use Rattle.dk_model.specs.Signatures.{PlainSignature}
use Rattle.dk_model.specs.Bindings.{under}
use Rattle.signature_log.specs.Reducers.{Keeps, AreOwned}
use Rattle.rule_check.specs.Founds.{terms_of}
use Rattle.rule_check.proofs.guards.types_under.Given as goal

abbrev pub invariant-loop-first : goal.invariant-loop-first
invariant-loop-first g l = record {
  same : map (g.R.Reducer.denotes l.r) l.all ++ map (under (terms_of g.R.Reducer.denotes l.fn.r l.fn.bindings)) (map (g.R.Reducer.denotes l.fn.r) l.rest)
      ≡ map (under (terms_of g.R.Reducer.denotes l.fn.r l.fn.bindings)) (map (g.R.Reducer.denotes l.fn.r) l.fn.types);
  own : AreOwned g.R.Reducer.owns l.r l.all;
  rest : AreOwned g.R.Reducer.owns l.fn.r l.rest;
  keeps : Keeps g.R.Reducer.owns g.R.Reducer.denotes l.fn.r l.r;
  serves : (S : PlainSignature) → g.R.Reducer.serves S l.fn.r → g.R.Reducer.serves S l.r;
}

abbrev pub decreases-loop-first : goal.decreases-loop-first
decreases-loop-first g l = length l.rest
