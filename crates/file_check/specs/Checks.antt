-- For callers: what the board's book, in which the commands of a file and of what it needs were checked, says of the shelf's books.
use Rattle.std.specs.Prelude.{◌≡◌, ℕ, List, Some}
use Rattle.std.specs.String.{string_bytes}
use Rattle.dk_io.specs.Bytes.{Books}
use Rattle.dk_io.specs.Causes.{Rose}
use Rattle.board_core.specs.declared.event.Event.{Event}
use Rattle.verdict_book.specs.Books.{IsReportOf}
use Rattle.verdict_book.specs.Report.{FileReport}
use Rattle.verdict_book.specs.declared.outcome.Outcome.{Outcome}
use Rattle.verdict_book.specs.declared.outcome.Outcome.TheVariants.{Accepted}
use Rattle.verdict_book.specs.declared.title.Title.{Title}
use Rattle.theory_walk.specs.BookNames.{book_named}
use Rattle.book_reader.specs.declared.walker.Root.{Root}
use Rattle.book_reader.specs.Ends.{LeavesFormer}
use Rattle.book_reader.specs.Shelves.{HasHeld, ShelfState}
use Rattle.book_reader.specs.Walkers.{setting_of}
use Rattle.file_check.specs.declared.checking.Unchecked.{Unchecked}
use Rattle.file_check.specs.declared.checking.Unchecked.TheVariants as unchecked
use Rattle.file_check.specs.Counts.{CountsAt, EndsOn}

-- where all was accepted, another book can be opened on the shelf
abbrev pub LeavesAt : ShelfState → ShelfState → Outcome → Type 0
LeavesAt old new (Accepted count) = LeavesFormer old new
LeavesAt old new outcome = Unit {0}

-- the report of its history is that of the whole books, or of those given before a call failed, or memory ended
pub record ChecksShelf (root : Root) (budget : ℕ) (old new : ShelfState) (titles : List Title) (events : List Event) : Type 0 where
  pub report : FileReport
  pub report_is : IsReportOf titles events report
  pub ends : (books : Books) → old.books ≡ Some books → EndsOn (setting_of root books) budget old new report.lines report.outcome
  pub books : new.books ≡ old.books
  pub counts : CountsAt (book_named (string_bytes root.file)) old new report.outcome
  pub leaves : LeavesAt old new report.outcome

-- nothing was read: the file couldn't be opened, and its count says so; or memory ended
pub record LeavesUnread (file : List ℕ) (old new : ShelfState) : Type 0 where
  pub missed : Rose (old.missed file) (new.missed file)
  pub left : new.left ≡ old.left
  pub aside : new.aside ≡ old.aside
  pub is_open : new.is_open ≡ old.is_open
  pub books : new.books ≡ old.books

abbrev pub IsUnchecked : List ℕ → ShelfState → ShelfState → Unchecked → Type 0
IsUnchecked file old new unchecked.Unopened = LeavesUnread file old new
IsUnchecked file old new unchecked.NoMemory = HasHeld old new × (new.books ≡ old.books)
