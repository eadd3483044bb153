-- For proofs: both sides of an equation after their steps.
use Rattle.std.specs.Prelude.{Option, Some, None}
use Rattle.dk_model.specs.PlainTerms.{Tree}
use Rattle.dk_model.specs.PlainEntries.{PlainSignature}
use Rattle.dk_model.specs.Bindings.{Bindings, under}
use Rattle.checked_steps.specs.Items.{ItemSteps}
use Rattle.checked_steps.specs.Matching.{within}
use Rattle.checked_steps.specs.Taken.{steps_taken}

abbrev pub both : Option Tree → Option Tree → Option (Tree × Tree)
both (Some t) (Some u) = Some (t, u)
both None o = None
both (Some t) None = None

-- each side under the bindings after its steps, under the bindings again
abbrev pub sides_taken : PlainSignature → ItemSteps → ItemSteps → Bindings → Tree × Tree → Option (Tree × Tree)
sides_taken S xs ys s p = both (within (under s) (steps_taken S xs (under s p.0))) (within (under s) (steps_taken S ys (under s p.1)))
