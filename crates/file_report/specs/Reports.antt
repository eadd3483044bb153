-- Trusted: the places, the names and the outcomes in the report of a theory, and how its commands are checked (docs/modules.md, docs/report.md).
use Rattle.std.specs.Prelude.{ℕ, ◌+◌, List, [], Some, None}
use Rattle.dk_model.specs.declared.code.Verdict.{Verdict}
use Rattle.dk_model.specs.declared.code.Verdict.TheVariants as verdict
use Rattle.board_core.specs.declared.event.Place.{Place}
use Rattle.verdict_book.specs.Report.{PlainShown, name_in}
use Rattle.verdict_book.specs.declared.outcome.Outcome.{Outcome}
use Rattle.verdict_book.specs.declared.outcome.Outcome.TheVariants.{Accepted, Stopped, Unopened, Unread}
use Rattle.theory_walk.specs.Libraries.{Key}
use Rattle.file_report.specs.Outcomes.{shown_name}
use Rattle.theory_walk.specs.Walks.{End, Placed, Reached, Spot, ends, goes_on, no_file, not_opened, refused_at, unread_at}

-- the module of a book, as reports have it: none for the file
abbrev pub module_shown : Key → List ℕ
module_shown None = []
module_shown (Some m) = m

abbrev pub place_of : Spot → Place
place_of spot = record { line = spot.line; «module» = module_shown spot.book }

-- a failed read is told of its book, and of no line
abbrev pub book_place : Key → Place
book_place book = place_of (record { book = book; line = 0 })

abbrev pub stopped_at : ℕ → Spot → Verdict → Outcome
stopped_at number spot v = Stopped number (place_of spot) v

-- the name of a command, in its module
abbrev pub name_of : Placed → List ℕ
name_of c = name_in (module_shown c.book) (shown_name c.command.form)

-- how commands are checked, one after the other, over a theory of any kind: the verdict on the one behind so many accepted ones,
-- what a report shows of it where it is accepted, and the theory with it
pub record Checking (T : Type 0) : Type 0 where
  pub verdict_on : T → ℕ → Placed → Verdict
  pub shown_on : T → Placed → PlainShown
  pub after : T → Placed → T

-- the outcome where so many commands were accepted and the theory ends so; the file's own book has no module
abbrev pub end_outcome : ℕ → End → Outcome
end_outcome count (refused_at spot code) = stopped_at (count + 1) spot (verdict.Refused code)
end_outcome count (unread_at spot) = Unread (count + 1) (book_place spot.book)
end_outcome count (not_opened spot m) = Unopened m
end_outcome count no_file = Unopened []

abbrev pub reached_outcome : ℕ → Reached → Outcome
reached_outcome count (goes_on known) = Accepted count
reached_outcome count (ends e) = end_outcome count e
