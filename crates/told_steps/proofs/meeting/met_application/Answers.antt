use Rattle.told_steps.proofs.Steps.{applications_meet}
use Rattle.told_steps.proofs.meeting.met_application.Goals as goal

pub returns-clause-meets : goal.returns-clause-meets
returns-clause-meets c = applications_meet c.args.function c.args.argument (record { form = c.in_ok-form.form; first = c.in_ok-first.first; second = c.in_ok-second.second })
    c.in_ok-first.ensures c.in_ok-second.ensures c.in_ok-form.ensures
