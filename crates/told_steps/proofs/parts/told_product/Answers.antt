use Rattle.told_steps.proofs.Steps.{product_leads}
use Rattle.told_steps.proofs.parts.told_product.Goals as goal

pub returns-clause-leads : goal.returns-clause-leads
returns-clause-leads c = product_leads c.args.domain c.args.codomain (record { form = c.in_ok-form.form; steps = c.in_ok-steps.steps }) c.in_ok-steps.ensures c.in_ok-form.ensures
