-- For callers: what a law says: what a capture stands for, the part that it was made of, once it is applied to its
-- rule variable's arguments.
use Rattle.std.specs.Prelude.{ℕ, ◌≡◌, false, List, [], map}
use Rattle.dk_model.specs.PlainTerms.{Tree, variable}
use Rattle.dk_model.specs.Substitution.{shift}
use Rattle.dk_model.specs.Spines.{applied}
use Rattle.dk_model.specs.Captures.{mentions_others, captured}
use Rattle.typing_model.specs.PlainSteps.{Steps}

-- t reduces to u by beta alone: no signature has a rule
abbrev pub ReducesByBeta : Tree → Tree → Type 0
ReducesByBeta t u = Steps [] 0 t u

-- a capture, shifted below the `depth` variables that the pattern binds and applied to the variables xs, gives the part
abbrev pub CaptureGivesPart : Type 0
CaptureGivesPart = (depth : ℕ) (xs : List ℕ) (t : Tree) → mentions_others 0 depth xs t ≡ false → ReducesByBeta (applied (shift 0 depth (captured depth xs t)) (map variable xs)) t
