use Rattle.told_steps.proofs.Steps.{application_leads}
use Rattle.told_steps.proofs.parts.told_application.Goals as goal

pub returns-clause-leads : goal.returns-clause-leads
returns-clause-leads c = application_leads c.args.function c.args.argument (record { form = c.in_ok-form.form; steps = c.in_ok-steps.steps }) c.in_ok-steps.ensures c.in_ok-form.ensures
