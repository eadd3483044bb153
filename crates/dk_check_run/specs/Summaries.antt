-- For proofs: the text that is written for a made theory.
use Rattle.std.specs.Prelude.{◌==◌, ℕ, Bool, false, List, [], ◌++◌, if◌then◌else◌}
use Rattle.dk_model.specs.declared.code.Verdict.TheVariants as verdict
use Rattle.verdict_book.specs.Report.{last_line}
use Rattle.verdict_book.specs.declared.outcome.Outcome.{Outcome}
use Rattle.verdict_book.specs.declared.outcome.Outcome.TheVariants.{Stopped}
use Rattle.dk_check_run.specs.Run.{memory_at_once}

-- memory ended before the first command
abbrev pub is_at_once : Outcome → Bool
is_at_once (Stopped number place verdict.Memory) = number == 0
is_at_once outcome = false

-- the text behind this line: a last line; but that memory ended so early is told alone
abbrev pub text_by : List ℕ → ℕ → Outcome → List ℕ
text_by line budget outcome = if is_at_once outcome then memory_at_once else line ++ last_line outcome budget []
