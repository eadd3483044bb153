-- Trusted: evaluation with units, as what typing asks of an evaluation (docs/typing.md).
use Rattle.std.specs.Prelude.{ℕ}
use Rattle.dk_model.specs.PlainEntries.{PlainSignature}
use Rattle.dk_model.specs.Evaluation.{whnf_of, comparison_of, normal_of}
use Rattle.dk_model.specs.TypingOver.{Evaluator}
use Rattle.dk_model.specs.Solving.{solved}

-- evaluation over a signature, with its units
abbrev pub by_units : PlainSignature → Evaluator ℕ
by_units S = record { whnf = whnf_of S; same = comparison_of S; normal = normal_of S; solve = λ n s t u. solved S s t u n }
