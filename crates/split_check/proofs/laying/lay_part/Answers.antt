use Rattle.infer_check.specs.Contexts.{rule_types, bound_types}
use Rattle.split_check.proofs.Layings.{part_goes}
use Rattle.split_check.proofs.laying.lay_part.Goals as goal

pub returns-clause-lays : goal.returns-clause-lays
returns-clause-lays g c = λ S. part_goes S c.args.laying.now _ (record { place = c.args.place; context = c.in_ok-context.context; argument = c.in_ok-argument.argument; domain = c.in_ok-domain.domain })
    (rule_types g.R.Reducer.denotes c.args.r.now c.args.laying.now.walk.context) (bound_types g.R.Reducer.denotes c.args.r.now c.args.laying.now.walk.context)
    (g.R.Reducer.denotes c.args.r.now c.args.argument.now) (g.R.Reducer.denotes c.args.r.now c.args.domain.now)
    c.in_ok-context.ensures.rule_vars c.in_ok-context.ensures.bound c.in_ok-argument.ensures.sends c.in_ok-domain.ensures.sends c.in_ok-push.ensures.items
