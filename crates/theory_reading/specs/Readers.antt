-- For proofs: where the reading of a theory stands, and what a turn of it comes to.
use Rattle.std.specs.Prelude.{◌≡◌, ◌≤◌, ℕ, ◌+◌, List, ◌∷◌, ◌++◌, length, map, Option, Some, None, Result, Ok, Err}
use Rattle.dk_io.specs.Bytes.{Books}
use Rattle.dk_model.specs.Scoping.{plain_command}
use Rattle.dk_model.specs.declared.code.Code.{Code}
use Rattle.dk_model.specs.declared.code.Verdict.{Verdict}
use Rattle.dk_model.specs.declared.code.Verdict.TheVariants as verdict
use Rattle.dk_model.specs.declared.limits.Limits.{Limits}
use Rattle.dk_model.specs.declared.scoped.Scoped.{Scoped}
use Rattle.dk_parser.specs.Written.{WrittenForm}
use Rattle.scope_terms.specs.Names.{reading as modules_in}
use Rattle.scope_terms.specs.Reading.{current}
use Rattle.scope_terms.specs.Scopes.{Module}
use Rattle.verdict_book.specs.declared.outcome.Outcome.{Outcome}
use Rattle.verdict_book.specs.declared.outcome.Outcome.TheVariants.{Accepted, Stopped, Unopened, Unread}
use Rattle.theory_walk.specs.Libraries.{Key}
use Rattle.theory_walk.specs.Walks.{Placed, Reached}
use Rattle.file_report.specs.Reports.{book_place, place_of}
use Rattle.file_report.specs.TheoryReports.{report_from}
use Rattle.book_reader.specs.declared.walker.WalkEnd.{WalkEnd}
use Rattle.book_reader.specs.declared.walker.WalkEnd.TheVariants as end
use Rattle.book_reader.specs.declared.walker.Walker.{Walker}
use Rattle.book_reader.specs.Ends.{CausesEnd, HoldsCounts}
use Rattle.book_reader.specs.Ends as books
use Rattle.book_reader.specs.Shelved.{AreLeft, Given, Setting, given_library, whole_library, without}
use Rattle.book_reader.specs.Shelves.{ShelfState}
use Rattle.book_reader.specs.Walkers.{HasGiven, setting_of}
use Rattle.theory_reading.specs.declared.reader.TheoryReader.{TheoryReader}
use Rattle.theory_reading.specs.Reads.{commands_in, outcome_in}
use Rattle.theory_reading.specs.Shaped.{ScopedTheory, fault_in, no_commands, reading, theory_behind, theory_in, verdict_in}
use Rattle.theory_reading.specs.Tied.{IsTied}

-- ---- the commands so far

abbrev pub theory_of : TheoryReader → ScopedTheory
theory_of r = record { names = (modules_in r.names).symbols; commands = map plain_command r.commands }

-- the module that is being read
abbrev pub module_at : TheoryReader → Module
module_at r = current (modules_in r.names)

-- the verdict that the next command is due
abbrev pub verdict_next : TheoryReader → WrittenForm → Verdict
verdict_next r form = verdict_in r.most (theory_of r) (length r.commands) (module_at r) form

-- its first code, within the limit
abbrev pub fault_next : TheoryReader → WrittenForm → Option Code
fault_next r form = fault_in (theory_of r) (module_at r) form

-- how the rest of a theory comes out behind so many commands
abbrev pub outcome_from : Limits → Module → ScopedTheory → ℕ → List Placed → Reached → Outcome
outcome_from limits own T count cs r = (report_from (reading limits own) T count cs r).outcome

-- whatever follows, these commands are passed
abbrev pub ArePassed : Limits → Module → List Placed → Type 0
ArePassed limits own done = (later : List Placed) (r : Reached)
    → outcome_from limits own no_commands 0 (done ++ later) r ≡ outcome_from limits own (theory_behind limits own no_commands done) (length done) later r

-- ---- the next turn may come

pub record IsReady (r : TheoryReader) (shelf : ShelfState) : Type 0 where
  pub walker : books.IsReady r.walker shelf
  pub tied : IsTied r.walker (modules_in r.names)
  pub most_is : r.most ≡ r.walker.root.limits.commands
  pub few : length r.commands ≤ r.most
  pub counted : (modules_in r.names).symbols.count ≡ length r.commands

-- each of these commands is passed, and they are those that are kept
pub record IsBehind (limits : Limits) (own : Module) (done : List Placed) (r : TheoryReader) : Type 0 where
  pub theory : theory_of r ≡ theory_behind limits own no_commands done
  pub count : length r.commands ≡ length done
  pub passed : ArePassed limits own done

-- these commands were given
pub record Stands (books : Books) (done : List Placed) (r : TheoryReader) (shelf : ShelfState) : Type 0 where
  pub given : HasGiven books done shelf r.walker
  pub behind : IsBehind r.walker.root.limits r.walker.root.own done r

-- with the walker behind a turn
abbrev pub turned : TheoryReader → Walker → TheoryReader
turned r w = record { most = r.most; walker = w; names = r.names; commands = r.commands }

-- what no turn changes
pub record Keeps (old new : TheoryReader) : Type 0 where
  pub root : new.walker.root ≡ old.walker.root
  pub most : new.most ≡ old.most

-- ---- a command

-- the command has no code, and is one more
pub record Adds (old : TheoryReader) (form : WrittenForm) (new : TheoryReader) : Type 0 where
  pub free : fault_next old form ≡ None
  pub theory : theory_of new ≡ theory_in (theory_of old) (module_at old) form
  pub count : length new.commands ≡ length old.commands + 1
  pub entered : (modules_in new.names).entered ≡ (modules_in old.names).entered
  pub standing : (modules_in new.names).standing ≡ (modules_in old.names).standing

-- the command at this line was taken; or why it wasn't
abbrev pub Puts : TheoryReader → WrittenForm → ℕ → TheoryReader → Result Unit WalkEnd → Type 0
Puts old form line new (Ok u) = (verdict_next old form ≡ verdict.Accepted) × Adds old form new
Puts old form line new (Err (end.Refused at code)) = (at ≡ line) × (verdict_next old form ≡ verdict.Refused code)
Puts old form line new (Err (end.NoMemory at)) = Unit {0}
Puts old form line new (Err end.Whole) = ⊥
Puts old form line new (Err end.Unread) = ⊥
Puts old form line new (Err (end.Unopened m at)) = ⊥

-- ---- the end

-- this is how the books end behind so many commands, where this is the book being read
abbrev pub EndsReading : Setting → ShelfState → Key → List Scoped → WalkEnd → Type 0
EndsReading s shelf book cs end.Whole =
    (outcome_in s (whole_library s) ≡ Accepted (length cs)) × (commands_in s (whole_library s) ≡ map plain_command cs)
EndsReading s shelf book cs (end.Refused line code) =
    outcome_in s (whole_library s) ≡ Stopped (length cs + 1) (place_of (record { book = book; line = line })) (verdict.Refused code)
EndsReading s shelf book cs end.Unread =
    (given : List Given) × AreLeft s given (shelf.left ∷ shelf.aside) × (outcome_in s (given_library s given) ≡ Unread (length cs + 1) (book_place book))
EndsReading s shelf book cs (end.Unopened m line) =
    (outcome_in s (without (Some m) (whole_library s)) ≡ Unopened m)
    × ((given : List Given) × AreLeft s given (shelf.left ∷ shelf.aside) × (outcome_in s (without (Some m) (given_library s given)) ≡ Unopened m))
EndsReading s shelf book cs (end.NoMemory line) = Unit {0}

-- what a turn comes to
abbrev pub StepsTo : Books → TheoryReader → ShelfState → Result Unit WalkEnd → Type 0
StepsTo books r shelf (Ok u) = (done : List Placed) × Stands books done r shelf
StepsTo books r shelf (Err e) = EndsReading (setting_of r.walker.root books) shelf r.walker.top.«module» r.commands e

-- what the counts say of it, where the file has this name
abbrev pub StepCauses : List ℕ → ShelfState → ShelfState → Result Unit WalkEnd → Type 0
StepCauses file old new (Ok u) = HoldsCounts old new
StepCauses file old new (Err e) = CausesEnd file old new e
