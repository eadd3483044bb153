use Rattle.std.proofs.Common.{◌≡◌, ◌++◌, length, map}
use Rattle.dk_model.specs.Signatures.{PlainSignature}
use Rattle.dk_model.specs.RuleTyping.{types_under}
use Rattle.signature_log.specs.Reducers.{Keeps, AreOwned, OwnsSomes}
use Rattle.rule_check.specs.Founds.{types_of, terms_of}
use Rattle.rule_check.proofs.sides.all_types.Given as goal

abbrev pub invariant-loop-typ : goal.invariant-loop-typ
invariant-loop-typ g l = record {
  same : map (g.R.Reducer.denotes l.r) l.all ++ types_under (terms_of g.R.Reducer.denotes l.fn.r l.fn.found.bindings) (types_of g.R.Reducer.denotes l.fn.r l.rest)
      ≡ types_under (terms_of g.R.Reducer.denotes l.fn.r l.fn.found.bindings) (types_of g.R.Reducer.denotes l.fn.r l.fn.found.types.items);
  own : AreOwned g.R.Reducer.owns l.r l.all;
  rest : OwnsSomes g.R.Reducer.owns l.fn.r l.rest;
  keeps : Keeps g.R.Reducer.owns g.R.Reducer.denotes l.fn.r l.r;
  serves : (S : PlainSignature) → g.R.Reducer.serves S l.fn.r → g.R.Reducer.serves S l.r;
}

abbrev pub decreases-loop-typ : goal.decreases-loop-typ
decreases-loop-typ g l = length l.rest
