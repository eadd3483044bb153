-- For callers: what the laws say of a theory that is reported as accepted: of its commands, and of reading its books again.
use Rattle.std.specs.Prelude.{◌≡◌, ℕ, List, [], length, map, Result, Ok, Err}
use Rattle.dk_model.specs.PlainCommands.{PlainCommand}
use Rattle.dk_model.specs.Scoping.{plain_command}
use Rattle.dk_model.specs.declared.scoped.Scoped.{Scoped}
use Rattle.checked_steps.specs.Laws.{AreAccepted}
use Rattle.verdict_book.specs.Report.{PlainShown}
use Rattle.verdict_book.specs.declared.outcome.Outcome.TheVariants.{Accepted}
use Rattle.theory_walk.specs.Libraries.{Library}
use Rattle.file_report.specs.Folds.{fold_of}
use Rattle.file_report.specs.Outcomes.{no_theory}
use Rattle.file_report.specs.Theories.{checking}
use Rattle.file_report.specs.TheoryReports.{report_of_walk}
use Rattle.book_reader.specs.Shelved.{Setting, walk_in, whole_library}
use Rattle.book_reader.specs.Shelves.{ShelfState}
use Rattle.theory_reading.specs.declared.reading.ReadingEnd.{ReadingEnd}
use Rattle.theory_reading.specs.declared.reading.ReadingEnd.TheVariants as end
use Rattle.theory_reading.specs.Reads.{ReadsBooks, commands_in, outcome_in}

-- ---- a theory that is reported as accepted

-- the report of the books that a library has is that all their commands are accepted, so many
abbrev pub IsReported : Setting → ℕ → Library → ℕ → Type 0
IsReported s budget lib count = (fold_of (checking s.limits budget s.own) s.most s.own lib no_theory).outcome ≡ Accepted count

-- the same of the report of their walk, with these lines, as the check of a shelf's books tells it
abbrev pub IsTold : Setting → ℕ → Library → List PlainShown → ℕ → Type 0
IsTold s budget lib lines count = report_of_walk s.limits budget s.own (walk_in s lib) ≡ record { lines = lines; outcome = Accepted count }

-- ---- its commands

-- so many commands, accepted one after the other, each with this budget over the entries of those before it
pub record AreAllAccepted (budget count : ℕ) (commands : List PlainCommand) : Type 0 where
  pub accepted : AreAccepted budget [] commands
  pub count_is : length commands ≡ count

abbrev pub ReportedAreAccepted : Type 0
ReportedAreAccepted = (s : Setting) (budget : ℕ) (lib : Library) (count : ℕ) → IsReported s budget lib count → AreAllAccepted budget count (commands_in s lib)

-- ---- reading its books again

-- what is read are such commands, or a call of the shelf failed or memory ended; no command is refused
abbrev pub GivesAccepted : ℕ → ℕ → Result (List Scoped) ReadingEnd → Type 0
GivesAccepted budget count (Ok commands) = AreAllAccepted budget count (map plain_command commands)
GivesAccepted budget count (Err (end.Refused number place code)) = ⊥
GivesAccepted budget count (Err (end.Unread number place)) = Unit {0}
GivesAccepted budget count (Err (end.Unopened m)) = Unit {0}
GivesAccepted budget count (Err end.NoFile) = Unit {0}
GivesAccepted budget count (Err end.NoMemory) = Unit {0}

-- they are read to their end
abbrev pub ReportedAreRead : Type 0
ReportedAreRead = (s : Setting) (budget : ℕ) (lib : Library) (count : ℕ) → IsReported s budget lib count → outcome_in s lib ≡ Accepted count

-- where all that a shelf has was reported so
abbrev pub AcceptedAreRead : Type 0
AcceptedAreRead = (s : Setting) (budget count : ℕ) (new : ShelfState) (result : Result (List Scoped) ReadingEnd)
    → IsReported s budget (whole_library s) count → ReadsBooks s new result → GivesAccepted budget count result

-- or was told so
abbrev pub ToldAreRead : Type 0
ToldAreRead = (s : Setting) (budget count : ℕ) (lines : List PlainShown) (new : ShelfState) (result : Result (List Scoped) ReadingEnd)
    → IsTold s budget (whole_library s) lines count → ReadsBooks s new result → GivesAccepted budget count result
