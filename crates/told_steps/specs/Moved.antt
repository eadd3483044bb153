-- For callers: steps of a part as steps of the whole, and steps one behind the other.
use Rattle.std.specs.Prelude.{ℕ, ◌+◌}
use Rattle.checked_steps.specs.Items.{ItemStep, beta_step, rule_step, ItemSteps, no_steps, more_steps}

-- a step so many nodes further on; what joins its conditions stays
abbrev pub moved_step : ℕ → ItemStep → ItemStep
moved_step n (beta_step place) = beta_step (place + n)
moved_step n (rule_step place number joins) = rule_step (place + n) number joins

abbrev pub moved : ℕ → ItemSteps → ItemSteps
moved n no_steps = no_steps
moved n (more_steps x xs) = more_steps (moved_step n x) (moved n xs)

-- the first ones, then the second ones
abbrev pub followed_by : ItemSteps → ItemSteps → ItemSteps
followed_by no_steps ys = ys
followed_by (more_steps x xs) ys = more_steps x (followed_by xs ys)
