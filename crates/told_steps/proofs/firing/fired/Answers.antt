use Rattle.std.proofs.Common.{refl, ap, ◌∙◌, ◌++◌, ◌∷◌, []}
use Rattle.certificate_items.specs.declared.item.Step.TheVariants.{Rule}
use Rattle.told_steps.proofs.Firings.{one_step}
use Rattle.told_steps.proofs.firing.fired.Goals as goal

pub returns : goal.returns
returns c = record {
  steps = one_step c.args.taken.number c.args.taken.joins c.push.new.self (c.in_ok-push.ensures.ok ∙ ap (λ xs. xs ++ (Rule 0 c.args.taken.number c.args.taken.joins ∷ [])) c.new-steps.ensures);
  form = refl;
}
