use Rattle.std.proofs.Common.{IfOk, length, sym as flip, subst}
use Rattle.std.proofs.lemmas.Bool.{ltb-false}
use Rattle.rule_check.specs.Bindings.{IsSomeUnder}
use Rattle.rule_check.proofs.Bound.{bound_at, bound_nowhere}
use Rattle.rule_check.proofs.bindings.bound_under.Goals as goal

pub some_under-requires-clause-own : goal.some_under-requires-clause-own
some_under-requires-clause-own g c = let found = c.in-Some.ensures.lookup in
    (bound_at g.R.Reducer.owns g.R.Reducer.denotes c.args.r.now c.args.terms.now c.args.number c.in-Some.term.now found.3.0 found.1 c.requires.terms).1

pub returns-in-Some-clause-under : goal.returns-in-Some-clause-under
returns-in-Some-clause-under g c =
    let D = g.R.Reducer.denotes in
    let r = c.args.r.now in
    let found = c.in-Some.ensures.lookup in
    subst (λ o. IfOk c.some_under.result (IsSomeUnder g.R.Reducer.owns D r c.args.terms.now o c.some_under.new.r))
    (bound_at g.R.Reducer.owns D r c.args.terms.now c.args.number c.in-Some.term.now found.3.0 found.1 c.requires.terms).0 c.some_under.ensures.under

pub returns-in-None-clause-under : goal.returns-in-None-clause-under
returns-in-None-clause-under g c = record {
  same = bound_nowhere g.R.Reducer.denotes c.args.r.now c.args.terms.now c.args.number (ltb-false c.args.number (length c.args.terms.now) (flip c.in-None.ensures.lookup.0));
  own = tt;
}
