use Rattle.std.proofs.Common.{◌≡◌, length}
use Rattle.dk_model.specs.Signatures.{PlainSignature}
use Rattle.signature_log.specs.Reducers.{Keeps, OwnsSomes}
use Rattle.rule_check.specs.Founds.{types_of, AreClosed}
use Rattle.rule_check.specs.Levels.{put_into_each}
use Rattle.rule_check.proofs.bindings.put_into_each.Given as goal

abbrev pub invariant-loop-first : goal.invariant-loop-first
invariant-loop-first g l = record {
  same : put_into_each (types_of g.R.Reducer.denotes l.r l.terms.items) l.rest ≡ put_into_each (types_of g.R.Reducer.denotes l.fn.r l.fn.terms.items) l.fn.numbers;
  own : OwnsSomes g.R.Reducer.owns l.r l.terms.items;
  closed : AreClosed (types_of g.R.Reducer.denotes l.r l.terms.items);
  keeps : Keeps g.R.Reducer.owns g.R.Reducer.denotes l.fn.r l.r;
  serves : (S : PlainSignature) → g.R.Reducer.serves S l.fn.r → g.R.Reducer.serves S l.r;
}

abbrev pub decreases-loop-first : goal.decreases-loop-first
decreases-loop-first g l = length l.rest
