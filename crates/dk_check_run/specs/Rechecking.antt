-- For proofs: the parts of a recheck.
use Rattle.std.specs.Prelude.{◌≡◌, ℕ, List, length, take}
use Rattle.dk_model.specs.PlainCommands.{PlainCommand}
use Rattle.dk_model.specs.declared.code.Verdict.TheVariants as verdict
use Rattle.verdict_book.specs.Report.{last_line}
use Rattle.verdict_book.specs.declared.outcome.Outcome.TheVariants.{Stopped, Unopened, Unread}
use Rattle.theory_walk.specs.BookNames.{folder_of}
use Rattle.theory_reading.specs.declared.reading.ReadingEnd.{ReadingEnd}
use Rattle.theory_reading.specs.declared.reading.ReadingEnd.TheVariants as end
use Rattle.recheck_theory.specs.Answers.{Answer, Answers}
use Rattle.dk_check_run.specs.Recheck.{past}
use Rattle.dk_check_run.specs.Run.{SinkState, Writes, memory_at_once}
use Rattle.dk_check_run.specs.Run as line
use Rattle.dk_check_run.specs.declared.held.Giving.{Giving}
use Rattle.dk_check_run.specs.declared.held.Giving.TheVariants as giving

-- what is answered of a certificate that was given so, up to a byte past this many
abbrev pub GivesAnswer : ℕ → List PlainCommand → List ℕ → Giving → Answer → Type 0
GivesAnswer most commands bytes giving.TooLong answer = (cut : Answer) × Answers commands (take most bytes) cut × (answer ≡ past (length commands) cut)
GivesAnswer most commands bytes giving.Whole answer = Answers commands bytes answer
GivesAnswer most commands bytes giving.Failed answer = Answers commands bytes answer

-- what is written where the file of this name isn't read to its end
abbrev pub PutsEnd : SinkState → SinkState → List ℕ → ReadingEnd → ℕ → Type 0
PutsEnd before after file (end.Refused number place code) result =
    Writes before after (last_line (Stopped number place (verdict.Refused code)) 0 (folder_of file)) 1 result
PutsEnd before after file (end.Unread number place) result = Writes before after (last_line (Unread number place) 0 (folder_of file)) 3 result
PutsEnd before after file (end.Unopened name) result = Writes before after (last_line (Unopened name) 0 (folder_of file)) 3 result
PutsEnd before after file end.NoFile result = Writes before after (line.unopened file) 3 result
PutsEnd before after file end.NoMemory result = Writes before after memory_at_once 4 result
