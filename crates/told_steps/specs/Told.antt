-- For callers: where steps lead.
use Rattle.std.specs.Prelude.{◌≡◌, Some, true}
use Rattle.dk_model.specs.PlainTerms.{Tree}
use Rattle.dk_model.specs.PlainEntries.{PlainSignature}
use Rattle.checked_steps.specs.Items.{ItemSteps}
use Rattle.checked_steps.specs.Taken.{both_same, steps_taken}

-- the steps lead from the first term to the second
abbrev pub Leads : PlainSignature → Tree → ItemSteps → Tree → Type 0
Leads S t xs u = steps_taken S xs t ≡ Some u

-- the steps of both terms lead to one
abbrev pub Meet : PlainSignature → Tree → ItemSteps → Tree → ItemSteps → Type 0
Meet S t xs u ys = both_same (steps_taken S xs t) (steps_taken S ys u) ≡ true
