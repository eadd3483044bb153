use Rattle.told_steps.proofs.Steps.{annotated_leads}
use Rattle.told_steps.proofs.parts.told_annotated.Goals as goal

pub returns-clause-leads : goal.returns-clause-leads
returns-clause-leads c = annotated_leads c.args.annotation c.args.body (record { form = c.in_ok-form.form; steps = c.in_ok-steps.steps }) c.in_ok-steps.ensures c.in_ok-form.ensures
