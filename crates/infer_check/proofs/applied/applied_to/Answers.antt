-- A codomain that mentions no variable, and one argument more.
use Rattle.infer_check.proofs.Putting.{closed_given, argument_given, argument_owned}
use Rattle.std.proofs.Common.{refl}
use Rattle.infer_check.proofs.applied.applied_to.Goals as goal

pub returns-then-is_closed-clause-is : goal.returns-then-is_closed-clause-is
returns-then-is_closed-clause-is g c =
    closed_given g.R.Reducer.owns g.R.Reducer.denotes c.args.r.now (record { typ = c.args.codomain.typ; arguments = c.clear.new.self }) c.args.codomain c.args.argument.now refl
    (c.is_closed.ensures c.if-is_closed.true)

pub returns-clause-own : goal.returns-clause-own
returns-clause-own g c =
    argument_owned g.R.Reducer.owns g.R.Reducer.denotes c.args.r.now c.as_argument.new.self c.in_ok-argument.ensures.keeps
    (record { typ = c.args.codomain.typ; arguments = c.push.new.self }) c.args.codomain c.in_ok-argument.argument c.requires.own refl c.in_ok-push.ensures.items
    c.in_ok-argument.ensures.own

pub returns-clause-is : goal.returns-clause-is
returns-clause-is g c =
    argument_given g.R.Reducer.owns g.R.Reducer.denotes c.args.r.now c.as_argument.new.self c.in_ok-argument.ensures.keeps
    (record { typ = c.args.codomain.typ; arguments = c.push.new.self }) c.args.codomain c.args.argument.now c.in_ok-argument.argument c.requires.own refl c.in_ok-push.ensures.items
    c.in_ok-argument.ensures.erased
