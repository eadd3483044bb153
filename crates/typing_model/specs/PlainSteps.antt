-- For proofs: steps where nothing is bound.
use Rattle.std.specs.Prelude.{ℕ, List, []}
use Rattle.dk_model.specs.PlainTerms.{Tree}
use Rattle.dk_model.specs.PlainEntries.{PlainSignature}
use Rattle.typing_model.specs.Steps.{StepBy, StepsBy, AreMetBy}

abbrev pub Step : PlainSignature → ℕ → Tree → Tree → Type 0
Step S h t u = StepBy S [] h t u

abbrev pub Steps : PlainSignature → ℕ → Tree → Tree → Type 0
Steps S h t u = StepsBy S [] h t u

abbrev pub AreMet : PlainSignature → ℕ → List (Tree × Tree) → Type 0
AreMet S h pairs = AreMetBy S [] h pairs
