use Rattle.std.proofs.Common.{◌≡◌}
use Rattle.certificate_items.specs.Views.{plain_steps}
use Rattle.told_steps.specs.Moved.{moved}
use Rattle.told_steps.proofs.moved.moved.Given as goal

abbrev pub invariant-loop-step : goal.invariant-loop-step
invariant-loop-step l = plain_steps l.moved ≡ moved l.nodes (plain_steps l.yielded)
