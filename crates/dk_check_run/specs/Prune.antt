-- Trusted: the rows of `prune` (docs/pruning.md).
use Rattle.std.specs.Prelude.{◌≡◌, ◌≢◌, ◌≤◌, ℕ, true, List, [], ◌∷◌, length, Option, None, Some, codes}
use Rattle.dk_io.specs.Bytes.{Books, added, book_of}
use Rattle.dk_io.specs.Causes.{Rose}
use Rattle.dk_lexer.specs.Tokens.{input_limit}
use Rattle.dk_model.specs.declared.limits.Limits.{Limits}
use Rattle.dk_model.specs.declared.code.Verdict.{Verdict}
use Rattle.dk_model.specs.declared.code.Verdict.TheVariants as verdict
use Rattle.command_line.specs.Requests.{CheckRequest, PruneRequest, Request, to_prune}
use Rattle.board_core.specs.declared.event.Place.{Place}
use Rattle.verdict_book.specs.Report.{FileReport, PlainShown, concat, last_line, status_of, stop_status}
use Rattle.verdict_book.specs.declared.outcome.Outcome.{Outcome}
use Rattle.verdict_book.specs.declared.outcome.Outcome.TheVariants.{Accepted, Stopped, Unread}
use Rattle.theory_walk.specs.BookNames.{book_named, own_module}
use Rattle.book_reader.specs.Shelved.{MemoryDue, Setting, whole_library}
use Rattle.book_reader.specs.Shelves.{ShelfState}
use Rattle.file_check.specs.Failures.{Counted, of_read}
use Rattle.prune_file.specs.Files.{IsAccepted}
use Rattle.prune_file.specs.Pruned.{IsPruned, IsUnknown}
use Rattle.prune_file.specs.Standing.{StandsAlone}
use Rattle.prune_file.specs.Told.{told}
use Rattle.dk_check_run.specs.Books.{no_modules, report_for, report_in, setting_for}
use Rattle.dk_check_run.specs.Check.{IsCutByMemory, IsOfGiven, IsReport}
use Rattle.dk_check_run.specs.Run.{LeavesBooks, memory_at_once}
use Rattle.dk_check_run.specs.Run as line
use Rattle.dk_check_run.specs.Rows.{Cause, books, given, unread, unopened, memory}

-- the file is checked first, with so many workers
abbrev pub checked : PruneRequest → CheckRequest
checked q = record { file = q.file; workers = 4; split = None; budget = q.budget; quiet = true }

-- and it is read alone
abbrev pub alone_setting : Limits → PruneRequest → Books → Setting
alone_setting limits q held = setting_for limits no_modules q.file held

-- its report
abbrev pub report_alone : Limits → PruneRequest → Books → FileReport
report_alone limits q held = report_in (alone_setting limits q held) q.budget (whole_library (alone_setting limits q held))

-- where the shelf tells its books, this is so of the file in them
abbrev pub IsOfFile : Limits → PruneRequest → Option Books → (Setting → Type 0) → Type 0
IsOfFile limits q None P = Unit {0}
IsOfFile limits q (Some held) P = P (alone_setting limits q held)

-- and this of its bytes
abbrev pub IsOfBytes : PruneRequest → Option Books → (List ℕ → Type 0) → Type 0
IsOfBytes q None P = Unit {0}
IsOfBytes q (Some held) P = (bytes : List ℕ) × (book_of held q.file ≡ Some bytes) × P bytes

-- the last line of its report, where a need of another module is E17
abbrev pub last_of : PruneRequest → Outcome → List ℕ
last_of q outcome = last_line (told outcome) q.budget []

-- no command declares the name
abbrev pub unknown : List ℕ → List ℕ
unknown name = concat (codes "unknown " ∷ name ∷ codes "\n" ∷ [])

pub data IsDue (limits : Limits) (q : PruneRequest) (old new : ShelfState) : Cause → ℕ → List ℕ → Type 0 where
  -- the file is accepted, and this is what it is pruned to
  of_a_known_name : (text : List ℕ) → IsOfBytes q old.books (λ bytes. IsPruned limits (own_module q.file) q.budget q.name bytes text)
      → IsDue limits q old new books 0 text
  -- it is accepted, and none of its commands declares the name
  of_an_unknown_name : IsOfBytes q old.books (λ bytes. IsAccepted limits (own_module q.file) q.budget bytes × IsUnknown limits q.name bytes)
      → IsDue limits q old new books 1 (unknown q.name)
  -- the report of the file ends at a command
  of_the_file : (r : FileReport) → (number : ℕ) → (place : Place) → (v : Verdict) → r.outcome ≡ Stopped number place v → v ≢ verdict.Accepted
      → IsOfFile limits q old.books (λ s. IsReport (checked q) r s (whole_library s))
      → IsDue limits q old new books (status_of r.outcome) (last_of q r.outcome)
  -- a read failed, and so it does whatever was not given
  of_the_given : (r : FileReport) → (number : ℕ) → (place : Place) → (v : Verdict) → r.outcome ≡ Stopped number place v → v ≢ verdict.Accepted
      → Counted (book_named q.file) old new of_read
      → IsOfFile limits q old.books (λ s. IsReport (checked q) r s (whole_library s))
      → IsDue limits q old new given (status_of r.outcome) (last_of q r.outcome)
  -- a read failed, and the report of what was given before ends at the command that was due
  of_a_failed_read : (r : FileReport) → (number : ℕ) → (place : Place) → r.outcome ≡ Unread number place
      → IsOfFile limits q old.books (λ s. IsOfGiven new of_read s (IsReport (checked q) r s))
      → IsDue limits q old new unread (status_of r.outcome) (last_of q r.outcome)
  of_a_failed_opening : LeavesBooks old new → IsDue limits q old new (unopened q.file) 3 (line.unopened q.file)
  -- memory ended at a command of the file
  of_memory : (lines : List PlainShown) → (number : ℕ) → (place : Place)
      → IsOfFile limits q old.books (λ s. IsCutByMemory (checked q) s (MemoryDue s) (whole_library s) lines number place)
      → IsDue limits q old new memory 4 (last_of q (Stopped number place verdict.Memory))
  of_no_memory : IsDue limits q old new memory 4 memory_at_once

-- ---- what a reader looks for

-- the words ask to prune a file, and the shelf tells its books
pub record AsksToPrune (request : Option Request) (told_books : Option Books) (q : PruneRequest) (held : Books) : Type 0 where
  pub asked : request ≡ Some (to_prune q)
  pub told_are : told_books ≡ Some held

-- whoever has the text as that file has it accepted, with whatever modules lie beside it
abbrev pub IsTaken : Limits → PruneRequest → List ℕ → Type 0
IsTaken limits q text = (held : Books) → book_of held q.file ≡ Some text → (count : ℕ) × ((report_for limits (checked q) held).outcome ≡ Accepted count)

-- what was written, and the status, where the file has these bytes: what it is pruned to for the name, which stands by itself
-- where an input may be so long; that the file is accepted and the name unknown; or the last line of its report
pub data PrunesFile (limits : Limits) (q : PruneRequest) (held : Books) (before after : Option (List ℕ)) : ℕ → Type 0 where
  as_known : (bytes text : List ℕ) → book_of held q.file ≡ Some bytes → (p : IsPruned limits (own_module q.file) q.budget q.name bytes text)
      → (length text ≤ input_limit limits → StandsAlone limits (own_module q.file) q.budget q.name bytes text p × IsTaken limits q text)
      → after ≡ added before text → PrunesFile limits q held before after 0
  as_unknown : (bytes : List ℕ) → book_of held q.file ≡ Some bytes → IsAccepted limits (own_module q.file) q.budget bytes → IsUnknown limits q.name bytes
      → after ≡ added before (unknown q.name) → PrunesFile limits q held before after 1
  as_reported : (number : ℕ) → (place : Place) → (v : Verdict) → (report_alone limits q held).outcome ≡ Stopped number place v → v ≢ verdict.Accepted
      → after ≡ added before (last_of q (Stopped number place v)) → PrunesFile limits q held before after (stop_status v)

-- the opening of the file failed, or a read, and the text that was written says which
pub data HasFileFault (q : PruneRequest) (old new : ShelfState) (before after : Option (List ℕ)) : Type 0 where
  by_opening : LeavesBooks old new → Rose (old.missed q.file) (new.missed q.file) → after ≡ added before (line.unopened q.file) → HasFileFault q old new before after
  by_read : (number : ℕ) → (place : Place) → Rose old.faults new.faults → after ≡ added before (last_of q (Unread number place)) → HasFileFault q old new before after
