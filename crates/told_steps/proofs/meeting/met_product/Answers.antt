use Rattle.told_steps.proofs.Steps.{products_meet}
use Rattle.told_steps.proofs.meeting.met_product.Goals as goal

pub returns-clause-meets : goal.returns-clause-meets
returns-clause-meets c = products_meet c.args.domain c.args.codomain (record { form = c.in_ok-form.form; first = c.in_ok-first.first; second = c.in_ok-second.second })
    c.in_ok-first.ensures c.in_ok-second.ensures c.in_ok-form.ensures
