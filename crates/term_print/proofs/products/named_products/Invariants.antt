use Rattle.term_print.specs.Products.{step_weights}
use Rattle.term_print.proofs.Surveyed.{Survey}
use Rattle.term_print.proofs.products.named_products.Given as goal

abbrev pub invariant-steps : goal.invariant-steps
invariant-steps g l = Survey (g.S.Source.denotes l.source) l.survey.steps.items l.survey.around.items l.survey.named.items l.fn.whole

abbrev pub decreases-steps : goal.decreases-steps
decreases-steps g l = step_weights (g.S.Source.denotes l.source) l.survey.steps.items
