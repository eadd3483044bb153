-- Trusted: what the program answers, the text and the status that are due (docs/report.md).
use Rattle.std.specs.Prelude.{◌≡◌, ◌≢◌, ◌⊎◌, ℕ, List, [], ◌∷◌, ◌++◌, length, Option, None, Some, codes, decimal}
use Rattle.dk_io.specs.Bytes.{AddsSome, Books, added}
use Rattle.dk_io.specs.Causes.{Rose}
use Rattle.dk_io.specs.declared.sink.Sink.{Ghosts as Sink}
use Rattle.dk_model.specs.declared.limits.Limits.{Limits}
use Rattle.dk_model.specs.declared.code.Verdict.TheVariants as verdict
use Rattle.command_line.specs.Requests.{CheckRequest, MakeRequest, Request, to_certify, to_check, to_make, to_prune, to_recheck, to_replay}
use Rattle.board_core.specs.declared.event.Place.{Place}
use Rattle.verdict_book.specs.Report.{FileReport, PlainShown, concat, last_line, nowhere, report_of, status_of}
use Rattle.verdict_book.specs.declared.outcome.Outcome.{Outcome}
use Rattle.verdict_book.specs.declared.outcome.Outcome.TheVariants.{Stopped, Unopened, Unread}
use Rattle.dk_make.specs.Theory.{theory_of}
use Rattle.theory_walk.specs.BookNames.{book_named, folder_of}
use Rattle.theory_walk.specs.Libraries.{Key}
use Rattle.file_report.specs.Reports.{module_shown}
use Rattle.book_reader.specs.Shelved.{whole_library, without}
use Rattle.book_reader.specs.Shelves.{ShelfState}
use Rattle.dk_check_run.specs.Books.{asked_setting, report_for, report_in, report_made}

-- ---- texts

-- the text of the lines of accepted commands, fewer where it is quiet, and of a last line
abbrev pub text_with : CheckRequest → List PlainShown → Outcome → List ℕ
text_with q lines outcome = report_of lines outcome q.budget q.quiet (folder_of q.file)

-- the text of a report
abbrev pub text_of : CheckRequest → FileReport → List ℕ
text_of q r = text_with q r.lines r.outcome

-- the file couldn't be opened
abbrev pub unopened : List ℕ → List ℕ
unopened file = concat (codes "unopened " ∷ file ∷ codes "\n" ∷ [])

-- memory ended before the first command was begun
abbrev pub memory_at_once : List ℕ
memory_at_once = last_line (Stopped 0 nowhere verdict.Memory) 0 []

-- the line that says how many theorems and bytes were made
abbrev pub made_line : ℕ → ℕ → List ℕ
made_line count size = concat (codes "make " ∷ decimal count ∷ codes " bytes " ∷ decimal size ∷ codes "\n" ∷ [])

-- that line, and the last line of a report
abbrev pub summary : MakeRequest → Outcome → List ℕ
summary q outcome = made_line q.count (length (theory_of q.count)) ++ last_line outcome q.budget []

-- ---- answers

-- a sink, as its meanings tell it
pub record SinkState : Type 0 where
  pub taken : Option (List ℕ)
  pub faults : ℕ

-- the state of a sink, of the members that its trait has
abbrev pub sink_of : {S : Type 0} → Sink S → S → SinkState
sink_of m sink = record { taken = m.taken sink; faults = m.faults sink }

-- the words ask to check a file, and the shelf tells its books
pub record AsksFor (request : Option Request) (told : Option Books) (q : CheckRequest) (books : Books) : Type 0 where
  pub asked : request ≡ Some (to_check q)
  pub told_are : told ≡ Some books

-- the text was written, and this is the status; or the sink failed and took a front of it, and the status is 5
pub record Writes (old new : SinkState) (text : List ℕ) (status result : ℕ) : Type 0 where
  pub known : (result ≡ status) ⊎ (result ≡ 5)
  pub whole : result ≢ 5 → new.taken ≡ added old.taken text
  pub held : result ≢ 5 → new.faults ≡ old.faults
  pub failed : result ≡ 5 → Rose old.faults new.faults
  pub front : result ≡ 5 → AddsSome old.taken new.taken text

-- the status is that of the report of the file with all that it needs, and the sink took its text
pub record ReportsFile (limits : Limits) (q : CheckRequest) (books : Books) (before after : Option (List ℕ)) (result : ℕ) : Type 0 where
  pub status : result ≡ status_of (report_for limits q books).outcome
  pub text : after ≡ added before (text_of q (report_for limits q books))

-- the status is that of the made theory's report, and the sink took its summary
pub record ReportsTheory (limits : Limits) (q : MakeRequest) (before after : Option (List ℕ)) (result : ℕ) : Type 0 where
  pub status : result ≡ status_of (report_made limits q).outcome
  pub text : after ≡ added before (summary q (report_made limits q).outcome)

-- the outcome is the books' own
abbrev pub IsDecided : ℕ → Type 0
IsDecided result = (result ≡ 0) ⊎ ((result ≡ 1) ⊎ (result ≡ 6))

-- ---- the shelf

-- the words open no book
abbrev pub OpensNothing : Option Request → Type 0
OpensNothing None = Unit {0}
OpensNothing (Some (to_check q)) = ⊥
OpensNothing (Some (to_make q)) = Unit {0}
OpensNothing (Some (to_certify q)) = ⊥
OpensNothing (Some (to_recheck q)) = ⊥
OpensNothing (Some (to_prune q)) = ⊥
OpensNothing (Some (to_replay q)) = ⊥

-- the books lie as they did: the open one, and those put aside
pub record LeavesBooks (old new : ShelfState) : Type 0 where
  pub left : new.left ≡ old.left
  pub aside : new.aside ≡ old.aside
  pub is_open : new.is_open ≡ old.is_open

-- a book is due where its failed opening would be the outcome
abbrev pub IsBookDue : Limits → CheckRequest → Books → Key → Type 0
IsBookDue limits q books book =
    (report_in (asked_setting limits q books) q.budget (without book (whole_library (asked_setting limits q books)))).outcome ≡ Unopened (module_shown book)

-- a call of the shelf failed, and the text that was written says which: the opening of the file; that of a module, behind the lines
-- of what it was needed for; or a read
pub data HasShelfFault (q : CheckRequest) (old new : ShelfState) (before after : Option (List ℕ)) : Type 0 where
  of_the_file : LeavesBooks old new → Rose (old.missed q.file) (new.missed q.file) → after ≡ added before (unopened q.file) → HasShelfFault q old new before after
  of_a_module : (name : List ℕ) → (lines : List PlainShown) → Rose (old.missed (book_named q.file (Some name))) (new.missed (book_named q.file (Some name)))
      → after ≡ added before (text_with q lines (Unopened name)) → HasShelfFault q old new before after
  of_a_read : (lines : List PlainShown) → (number : ℕ) → (place : Place) → Rose old.faults new.faults
      → after ≡ added before (text_with q lines (Unread number place)) → HasShelfFault q old new before after
