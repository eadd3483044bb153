use Rattle.std.proofs.Common.{refl}
use Rattle.told_steps.proofs.Steps.{leads_on}
use Rattle.told_steps.proofs.told.followed.Goals as goal

pub returns-clause-leads : goal.returns-clause-leads
returns-clause-leads c = leads_on c.args.first c.args.second (record { form = c.args.second.form; steps = c.in_ok-steps.steps }) c.in_ok-steps.ensures refl
