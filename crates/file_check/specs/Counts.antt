-- For callers: the report of the books of a shelf, whole or as far as they were given, and what the shelf's counts say of it.
use Rattle.std.specs.Prelude.{◌≡◌, ◌⊎◌, ◌≤◌, ◌+◌, ℕ, List, [], ◌∷◌, length, take, Some}
use Rattle.dk_model.specs.declared.code.Verdict.TheVariants as verdict
use Rattle.board_core.specs.declared.event.Place.{Place}
use Rattle.verdict_book.specs.Report.{FileReport, PlainShown, nowhere}
use Rattle.verdict_book.specs.declared.outcome.Outcome.{Outcome}
use Rattle.verdict_book.specs.declared.outcome.Outcome.TheVariants.{Accepted, Stopped, Unread, Unopened}
use Rattle.theory_walk.specs.Libraries.{Key, Library}
use Rattle.theory_walk.specs.Walks.{Spot}
use Rattle.file_report.specs.Reports.{place_of}
use Rattle.file_report.specs.TheoryReports.{report_of_walk}
use Rattle.book_reader.specs.Shelved.{AreLeft, Given, IsDueAt, MemoryDue, Setting, walk_in, whole_library, without}
use Rattle.book_reader.specs.Shelves.{HasHeld, ShelfState}
use Rattle.file_check.specs.Failures.{Counted, Failure, given_till, of_opening, of_read}

-- the report of the books that a library has
abbrev pub report_in : Setting → ℕ → Library → FileReport
report_in s budget lib = report_of_walk s.limits budget s.own (walk_in s lib)

-- the first lines of a library's own report, and that memory ended at the next command, at this place, where `due` says that one
-- behind so many may be due at a line of a book
pub record IsCutByMemory (s : Setting) (budget : ℕ) (due : ℕ → Spot → Type 0) (lib : Library) (lines : List PlainShown) (number : ℕ) (place : Place) : Type 0 where
  pub lines_are : lines ≡ take (length lines) (report_in s budget lib).lines
  pub within : length lines ≤ length (report_in s budget lib).lines
  pub number_is : number ≡ length lines + 1
  pub spot : Spot
  pub place_is : place ≡ place_of spot
  pub memory : due (length lines) spot

-- the line `memory 0 line 0` alone; or the report of a library up to where memory ended
abbrev pub EndsInMemory : Setting → ℕ → (ℕ → Spot → Type 0) → Library → List PlainShown → ℕ → Place → Type 0
EndsInMemory s budget due lib lines number place =
    ((lines ≡ []) × (number ≡ 0) × (place ≡ nowhere)) ⊎ IsCutByMemory s budget due lib lines number place

-- these lines and this outcome are the report of the library, or memory ended
abbrev pub ReportsBy : Setting → ℕ → (ℕ → Spot → Type 0) → Library → List PlainShown → Outcome → Type 0
ReportsBy s budget due lib lines (Stopped number place verdict.Memory) = EndsInMemory s budget due lib lines number place
ReportsBy s budget due lib lines outcome = report_in s budget lib ≡ record { lines = lines; outcome = outcome }

-- the report of the whole books, where memory may end at any front of each
abbrev pub ReportsWhole : Setting → ℕ → List PlainShown → Outcome → Type 0
ReportsWhole s budget = ReportsBy s budget (MemoryDue s) (whole_library s)

-- the report of another library, where memory may end at a command that it has, or where it ends
abbrev pub Reports : Setting → ℕ → Library → List PlainShown → Outcome → Type 0
Reports s budget lib = ReportsBy s budget (IsDueAt (walk_in s lib)) lib

-- ---- failed calls

-- this call failed, and this is the report of the books as far as they were given
pub record EndsGiven (s : Setting) (budget : ℕ) (old new : ShelfState) (lines : List PlainShown) (outcome : Outcome) (failure : Failure) : Type 0 where
  pub counted : Counted s.named old new failure
  pub given : List Given
  pub left : AreLeft s given (new.left ∷ new.aside)
  pub reports : Reports s budget (given_till s given failure) lines outcome

-- ---- the end

-- where all was accepted no call of the shelf failed, where books were left unread a read did, and where one was left unopened its
-- opening; where a command stopped the theory any of these may be
abbrev pub CountsAt : (Key → List ℕ) → ShelfState → ShelfState → Outcome → Type 0
CountsAt named old new (Accepted count) = HasHeld old new
CountsAt named old new (Unread number place) = Counted named old new of_read
CountsAt named old new (Unopened m) = Counted named old new (of_opening m)
CountsAt named old new (Stopped number place verdict.Accepted) = HasHeld old new
CountsAt named old new (Stopped number place v) = HasHeld old new ⊎ ((failure : Failure) × Counted named old new failure)

-- this is the report of the whole books, or memory ended; where a call failed it is also that of the books as far as they were given,
-- the only one that leaves a book unread or unopened
abbrev pub EndsOn : Setting → ℕ → ShelfState → ShelfState → List PlainShown → Outcome → Type 0
EndsOn s budget old new lines (Accepted count) = ReportsWhole s budget lines (Accepted count) × HasHeld old new
EndsOn s budget old new lines (Unread number place) = EndsGiven s budget old new lines (Unread number place) of_read
EndsOn s budget old new lines (Unopened m) =
    EndsGiven s budget old new lines (Unopened m) (of_opening m) × Reports s budget (without (Some m) (whole_library s)) lines (Unopened m)
EndsOn s budget old new lines (Stopped number place v) =
    ReportsWhole s budget lines (Stopped number place v)
    × (HasHeld old new ⊎ ((failure : Failure) × EndsGiven s budget old new lines (Stopped number place v) failure))
