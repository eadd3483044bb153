-- Steps and joins inside a step are those of the lists that code has.
use Rattle.std.proofs.Common.{List, ℕ, ◌≡◌, refl, ap, ◌∙◌, sym as flip}
use Rattle.checked_steps.specs.Items.{rule_step, more_steps, more_joins}
use Rattle.certificate_items.specs.declared.item.Step.{Row_of-Step, end_of-Step, more_of-Step, items-the_row-Step, Row_of-Join, end_of-Join, more_of-Join, items-the_row-Join}
use Rattle.certificate_items.specs.declared.item.Step.TheVariants.{Rule}
use Rattle.certificate_items.specs.declared.item.Step.TheBlock.{shown-the_row-Step-0, items_shown-the_row-Step-0, hidden-the_row-Join-1, items_hidden-the_row-Join-1}
use Rattle.certificate_items.specs.declared.item.Join.{Join}
use Rattle.certificate_items.specs.Views.{plain_step, joins_in, steps_in, plain_steps, plain_joins}

steps_listed : (n : _) (r : Row_of-Step n) → steps_in r ≡ plain_steps (items-the_row-Step n r)
steps_listed n end_of-Step = refl
steps_listed n (more_of-Step x r) = ap (more_steps (plain_step x)) (steps_listed _ r)

steps_shown : (s : _) (r : Row_of-Step _) → steps_in r ≡ plain_steps (shown-the_row-Step-0 s r)
steps_shown s r = steps_listed _ r ∙ ap plain_steps (flip (items_shown-the_row-Step-0 s r))

joins_listed : (n : _) (r : Row_of-Join n) → joins_in r ≡ plain_joins (items-the_row-Join n r)
joins_listed n end_of-Join = refl
joins_listed n (more_of-Join s x t y r) = ap (λ a. more_joins a (steps_in y) (joins_in r)) (steps_shown s x)
    ∙ ap (λ b. more_joins (plain_steps (shown-the_row-Step-0 s x)) b (joins_in r)) (steps_shown t y)
    ∙ ap (more_joins (plain_steps (shown-the_row-Step-0 s x)) (plain_steps (shown-the_row-Step-0 t y))) (joins_listed _ r)

-- the joins of a rule's step
pub rule_is : (place number : ℕ) (js : List Join) → plain_step (Rule place number js) ≡ rule_step place number (plain_joins js)
rule_is place number js = ap (rule_step place number) (joins_listed _ (hidden-the_row-Join-1 js) ∙ ap plain_joins (items_hidden-the_row-Join-1 js))
