use Rattle.rule_check.proofs.Bound.{some_filled}
use Rattle.rule_check.proofs.bindings.some_under.Goals as goal

pub returns-in_ok-fill-in-Some-clause-under : goal.returns-in_ok-fill-in-Some-clause-under
returns-in_ok-fill-in-Some-clause-under g c = some_filled g.R.Reducer.owns g.R.Reducer.denotes c.args.r.now c.fill.new.self c.args.terms.now c.args.term.now c.in-Some.term c.in_ok-fill-in-Some.field-0 c.in-Some.is c.requires.closed c.in_ok-fill-in-Some.ensures.makes
