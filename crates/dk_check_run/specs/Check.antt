-- Trusted: the rows of `check`, and of whatever else is checked so.
use Rattle.std.specs.Prelude.{◌≡◌, ◌⊎◌, ◌≤◌, ◌+◌, ℕ, List, ◌∷◌, length, take, Some}
use Rattle.dk_model.specs.declared.limits.Limits.{Limits}
use Rattle.dk_model.specs.declared.code.Verdict.{Verdict}
use Rattle.dk_model.specs.declared.code.Verdict.TheVariants as verdict
use Rattle.command_line.specs.Requests.{CheckRequest}
use Rattle.board_core.specs.declared.event.Place.{Place}
use Rattle.verdict_book.specs.Report.{FileReport, PlainShown, status_of}
use Rattle.verdict_book.specs.declared.outcome.Outcome.{Outcome}
use Rattle.verdict_book.specs.declared.outcome.Outcome.TheVariants.{Stopped, Unopened, Unread}
use Rattle.theory_walk.specs.BookNames.{book_named}
use Rattle.theory_walk.specs.Libraries.{Library}
use Rattle.theory_walk.specs.Walks.{Spot}
use Rattle.file_report.specs.Reports.{place_of}
use Rattle.book_reader.specs.Shelved.{AreLeft, Given, IsDueAt, MemoryDue, Setting, walk_in, whole_library, without}
use Rattle.book_reader.specs.Shelves.{HasHeld, ShelfState}
use Rattle.file_check.specs.Failures.{Counted, Failure, given_till, of_opening, of_read}
use Rattle.dk_check_run.specs.Books.{IsOfBooks, report_in}
use Rattle.dk_check_run.specs.Run.{LeavesBooks, memory_at_once}
use Rattle.dk_check_run.specs.Run as line
use Rattle.dk_check_run.specs.Rows.{Cause, books, given, unread, unopened, memory}

-- this is the report of the books that a library has
abbrev pub IsReport : CheckRequest → FileReport → Setting → Library → Type 0
IsReport q r s lib = report_in s q.budget lib ≡ r

-- so much was given of the open books before this call failed, and this is so of a library that has no more of them
abbrev pub IsOfGiven : ShelfState → Failure → Setting → (Library → Type 0) → Type 0
IsOfGiven new failure s P = (given : List Given) × AreLeft s given (new.left ∷ new.aside) × P (given_till s given failure)

-- the first lines of a library's own report, and that memory ended at the next command, at a place that may be due there
pub record IsCutByMemory (q : CheckRequest) (s : Setting) (may_be : ℕ → Spot → Type 0) (lib : Library) (lines : List PlainShown) (number : ℕ) (place : Place) : Type 0 where
  pub within : length lines ≤ length (report_in s q.budget lib).lines
  pub lines_are : lines ≡ take (length lines) (report_in s q.budget lib).lines
  pub number_is : number ≡ length lines + 1
  pub spot : Spot
  pub place_is : place ≡ place_of spot
  pub due : may_be (length lines) spot

-- where this is written of a report, of its lines and its outcome
pub data IsDue (limits : Limits) (q : CheckRequest) (put : List PlainShown → Outcome → List ℕ) (old new : ShelfState) : Cause → ℕ → List ℕ → Type 0 where
  -- the report of the whole books
  of_the_books : (r : FileReport) → IsOfBooks limits q old.books (λ s. IsReport q r s (whole_library s))
      → IsDue limits q put old new books (status_of r.outcome) (put r.lines r.outcome)
  -- a call of the shelf failed, and the report ends at a command that was given before: that of the whole books too
  of_the_given : (r : FileReport) → (number : ℕ) → (place : Place) → (v : Verdict) → (failure : Failure) → r.outcome ≡ Stopped number place v
      → Counted (book_named q.file) old new failure
      → IsOfBooks limits q old.books (λ s. IsReport q r s (whole_library s) × IsOfGiven new failure s (IsReport q r s))
      → IsDue limits q put old new given (status_of r.outcome) (put r.lines r.outcome)
  -- a read failed, and the report of what was given before ends at the command that was due
  of_a_failed_read : (r : FileReport) → (number : ℕ) → (place : Place) → r.outcome ≡ Unread number place
      → IsOfBooks limits q old.books (λ s. IsOfGiven new of_read s (IsReport q r s))
      → IsDue limits q put old new unread (status_of r.outcome) (put r.lines r.outcome)
  -- the file couldn't be opened
  of_a_failed_opening : LeavesBooks old new → IsDue limits q put old new (unopened q.file) 3 (line.unopened q.file)
  -- a module couldn't be, and without it the report of what was given before ends there; so does that of the whole books
  of_a_missing_module : (r : FileReport) → (name : List ℕ) → r.outcome ≡ Unopened name
      → IsOfBooks limits q old.books (λ s. IsReport q r s (without (Some name) (whole_library s)) × IsOfGiven new (of_opening name) s (IsReport q r s))
      → IsDue limits q put old new (unopened (book_named q.file (Some name))) (status_of r.outcome) (put r.lines r.outcome)
  -- memory ended at a command; where a call failed, at one whose lines and place what was given before tells
  of_memory : (lines : List PlainShown) → (number : ℕ) → (place : Place)
      → IsOfBooks limits q old.books (λ s. IsCutByMemory q s (MemoryDue s) (whole_library s) lines number place
      × (HasHeld old new ⊎ ((failure : Failure) × Counted (book_named q.file) old new failure
      × IsOfGiven new failure s (λ lib. IsCutByMemory q s (IsDueAt (walk_in s lib)) lib lines number place))))
      → IsDue limits q put old new memory 4 (put lines (Stopped number place verdict.Memory))
  of_no_memory : IsDue limits q put old new memory 4 memory_at_once
