-- For callers: steps, joins and items of code as plain data.
use Rattle.std.specs.Prelude.{List, [], ◌∷◌, map}
use Rattle.certificate_lines.specs.declared.line.Word.{Word}
use Rattle.certificate_lines.specs.declared.line.Word.TheVariants.{Same, LeftBound, RightBound, InParts, LetGo}
use Rattle.checked_steps.specs.Items.{ItemStep, beta_step, rule_step, ItemSteps, no_steps, more_steps, ItemJoins, no_joins, more_joins}
use Rattle.checked_steps.specs.Items.{ItemWord, same_now, left_bound, right_bound, in_parts, let_go}
use Rattle.checked_steps.specs.Items.{Item as PlainItem, reduction, joining, equation}
use Rattle.certificate_items.specs.declared.item.Step.{Step, Beta, Rule', Row_of-Step, end_of-Step, more_of-Step, Row_of-Join, end_of-Join, more_of-Join}
use Rattle.certificate_items.specs.declared.item.Join.{Join}
use Rattle.certificate_items.specs.declared.item.Item.{Item}
use Rattle.certificate_items.specs.declared.item.Item.TheVariants.{Reduction, Joining, Equation}

abbrev mutual
  pub plain_step : Step → ItemStep
  plain_step (Beta place) = beta_step place
  plain_step (Rule' place number shape joins) = rule_step place number (joins_in joins)

  pub joins_in : {m : _} → Row_of-Join m → ItemJoins
  joins_in end_of-Join = no_joins
  joins_in (more_of-Join shape first shape' second rest) = more_joins (steps_in first) (steps_in second) (joins_in rest)

  pub steps_in : {m : _} → Row_of-Step m → ItemSteps
  steps_in end_of-Step = no_steps
  steps_in (more_of-Step x rest) = more_steps (plain_step x) (steps_in rest)

abbrev pub plain_steps : List Step → ItemSteps
plain_steps [] = no_steps
plain_steps (x ∷ xs) = more_steps (plain_step x) (plain_steps xs)

abbrev pub plain_joins : List Join → ItemJoins
plain_joins [] = no_joins
plain_joins (j ∷ js) = more_joins (plain_steps j.first) (plain_steps j.second) (plain_joins js)

abbrev pub plain_word : Word → ItemWord
plain_word Same = same_now
plain_word LeftBound = left_bound
plain_word RightBound = right_bound
plain_word InParts = in_parts
plain_word LetGo = let_go

abbrev pub plain_item : Item → PlainItem
plain_item (Reduction steps) = reduction (plain_steps steps)
plain_item (Joining join) = joining (plain_steps join.first) (plain_steps join.second)
plain_item (Equation word join) = equation (plain_word word) (plain_steps join.first) (plain_steps join.second)

abbrev pub plain_items : List Item → List PlainItem
plain_items items = map plain_item items
