use Rattle.std.proofs.Common.{◌≡◌, ◌++◌, map, length}
use Rattle.shared_term.specs.Storage.{stored_term}
use Rattle.signature_log.specs.Reducers.{AreOwned}
use Rattle.split_check.proofs.context.sent.Given as goal

abbrev pub invariant-loop-term : goal.invariant-loop-term
invariant-loop-term g l = record {
  same : map stored_term l.made ++ map (g.R.Reducer.denotes l.r) l.rest ≡ map (g.R.Reducer.denotes l.r) l.terms;
  own : AreOwned g.R.Reducer.owns l.r l.rest;
}

abbrev pub decreases-loop-term : goal.decreases-loop-term
decreases-loop-term g l = length l.rest
