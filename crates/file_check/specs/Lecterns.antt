-- For proofs: the books being read with the desk, what a turn of them comes to, and what the reading of a theory leaves.
use Rattle.std.specs.Prelude.{◌≡◌, ℕ, Bool, true, false, List, [], ◌∷◌, ◌++◌, length, map, ◌≤◌, Option, Some, None, Result, Ok, Err}
use Rattle.std.specs.List.{list_any}
use Rattle.std.specs.String.{string_bytes}
use Rattle.dk_io.specs.Bytes.{Books}
use Rattle.dk_model.specs.declared.code.Verdict.TheVariants as verdict
use Rattle.dk_model.specs.declared.limits.Limits.{Limits}
use Rattle.dk_parser.specs.Written.{WrittenForm}
use Rattle.scope_terms.specs.Reading.{Reading, after_entering}
use Rattle.scope_terms.specs.declared.modules.Entered.TheVariants.{New}
use Rattle.board_core.specs.declared.event.End.{End}
use Rattle.board_core.specs.declared.event.End.TheVariants as ending
use Rattle.board_core.specs.declared.event.Place.{Place}
use Rattle.board_core.specs.Events.{is_fault}
use Rattle.verdict_book.specs.declared.title.Title.{Title}
use Rattle.theory_walk.specs.BookNames.{book_named}
use Rattle.theory_walk.specs.Libraries.{Key}
use Rattle.theory_walk.specs.Walks.{Placed, Walk, is_module}
use Rattle.file_report.specs.Outcomes.{no_theory}
use Rattle.file_report.specs.Jobs.{AreJobsBehind, job_titles}
use Rattle.file_report.specs.Histories.{EndsReading}
use Rattle.book_reader.specs.declared.walker.Root.{Root}
use Rattle.book_reader.specs.declared.walker.WalkEnd.{WalkEnd}
use Rattle.book_reader.specs.declared.walker.WalkEnd.TheVariants as walk
use Rattle.book_reader.specs.declared.walker.Walker.{Walker}
use Rattle.book_reader.specs.Ends.{HoldsCounts, below_file, books_open}
use Rattle.book_reader.specs.Ends as books
use Rattle.book_reader.specs.Shelved.{AreLeft, Given, MemoryDue, Setting, walk_in, whole_library, without}
use Rattle.book_reader.specs.Shelves.{ShelfState}
use Rattle.book_reader.specs.Walkers.{HasGiven, has, setting_of}
use Rattle.file_check.specs.declared.desk.Desk.{Desk}
use Rattle.file_check.specs.declared.halt.Halt.{Halt}
use Rattle.file_check.specs.declared.halt.Halt.TheVariants as halt
use Rattle.file_check.specs.declared.job.Job.{Job}
use Rattle.file_check.specs.declared.lectern.Lectern.{Lectern}
use Rattle.file_check.specs.Failures.{Counted, Failure, given_till, of_opening, of_read}
use Rattle.file_check.specs.Desks as desk
use Rattle.file_check.specs.Desks.{IsVerdictOn, StandsBehind, Stays, Takes, known_at, plain_jobs, seen_at}
use Rattle.file_check.specs.Halts.{end_at}
use Rattle.file_check.specs.Jobs.{job_of, modules_of}

-- ---- modules

abbrev pub AreOpened : List (List ℕ) → List (List ℕ) → Type 0
AreOpened known [] = Unit {0}
AreOpened known (m ∷ ms) = (has known m ≡ true) × AreOpened known ms

-- the modules of the open books are those entered, the file's own last, and what wasn't opened yet is new
pub record IsTied (w : Walker) (r : Reading) : Type 0 where
  pub modules : List (List ℕ)
  pub books_are : books_open w ≡ map (λ m. Some m) modules ++ None ∷ []
  pub opened_are : AreOpened w.opened modules
  pub entered_are : r.entered ≡ map (λ m. Some m) modules ++ w.root.own ∷ []
  pub fresh : (m : List ℕ) → is_module m w.root.own ≡ false → has w.opened m ≡ false → r.standing (Some m) ≡ New

-- ---- the desk at the books

-- the next turn may come
pub record IsReady (l : Lectern) (shelf : ShelfState) : Type 0 where
  pub walker : books.IsReady l.walker shelf
  pub desk_is : desk.IsReady l.desk
  pub limits : l.desk.limits ≡ l.walker.root.limits
  pub tied : IsTied l.walker (modules_of l.desk.theory)

-- these commands were given, and are the jobs
pub record Stands (books : Books) (done : List Placed) (l : Lectern) (shelf : ShelfState) : Type 0 where
  pub given : HasGiven books done shelf l.walker
  pub behind : StandsBehind l.walker.root.limits l.desk.budget l.walker.root.own l.desk done

-- what no turn changes
pub record Keeps (old new : Lectern) : Type 0 where
  pub root : new.walker.root ≡ old.walker.root
  pub limits : new.desk.limits ≡ old.desk.limits
  pub budget : new.desk.budget ≡ old.desk.budget
  pub made : new.desk.pass.seat.me.0.made ≡ old.desk.pass.seat.me.0.made

-- nothing but the theory of the desk changes
pub record KeepsDesk (old new : Desk) : Type 0 where
  pub limits : new.limits ≡ old.limits
  pub budget : new.budget ≡ old.budget
  pub titles : new.titles ≡ old.titles
  pub pass : new.pass ≡ old.pass
  pub version : new.theory.version ≡ old.theory.version

-- this module was entered
pub record EntersModule (old new : Desk) (m : Key) : Type 0 where
  pub keeps : KeepsDesk old new
  pub modules : modules_of new.theory ≡ after_entering (modules_of old.theory) m

-- the command at this line became a job; or why it didn't
abbrev pub PutsCommand : Desk → WrittenForm → Place → Desk → Result Unit Halt → Type 0
PutsCommand old form place new (Ok u) = Takes old new form place
PutsCommand old form place new (Err halt.Stopped) = Stays old new × (list_any is_fault (seen_at new) ≡ true)
PutsCommand old form place new (Err (halt.Fault line v)) = Stays old new × (line ≡ place.line) × IsVerdictOn old form v
PutsCommand old form place new (Err halt.Whole) = ⊥
PutsCommand old form place new (Err halt.Unread) = ⊥
PutsCommand old form place new (Err (halt.Unopened m)) = ⊥

-- ---- the end

-- why no further command comes
abbrev pub halt_at : WalkEnd → Halt
halt_at walk.Whole = halt.Whole
halt_at (walk.Refused line code) = halt.Fault line (verdict.Refused code)
halt_at walk.Unread = halt.Unread
halt_at (walk.Unopened m line) = halt.Unopened m
halt_at (walk.NoMemory line) = halt.Fault line verdict.Memory

-- what the counts say of it
abbrev pub HaltCounts : (Key → List ℕ) → ShelfState → ShelfState → Halt → Type 0
HaltCounts named old new halt.Unread = Counted named old new of_read
HaltCounts named old new (halt.Unopened m) = Counted named old new (of_opening m)
HaltCounts named old new h = HoldsCounts old new

abbrev pub StepCounts : (Key → List ℕ) → ShelfState → ShelfState → Result Unit Halt → Type 0
StepCounts named old new (Ok u) = HoldsCounts old new
StepCounts named old new (Err h) = HaltCounts named old new h

-- at the end of the file at most so many books are put aside
abbrev pub EndLeaves : ℕ → ShelfState → End → Type 0
EndLeaves count shelf ending.Whole = length shelf.aside ≤ count
EndLeaves count shelf e = Unit {0}

-- a turn puts none aside below those of the walk; at the end of the file they are all that is put aside
abbrev pub StepLeaves : Lectern → ShelfState → Lectern → ShelfState → Result Unit Halt → Type 0
StepLeaves l old m new (Ok u) = below_file m.walker new ≡ below_file l.walker old
StepLeaves l old m new (Err h) = EndLeaves (below_file l.walker old) new (end_at m.walker.top.«module» h)

-- where memory ended, it did so behind so many commands, at this line of this book
abbrev pub MemoryAt : Setting → ℕ → Key → Halt → Type 0
MemoryAt s count book (halt.Fault line verdict.Memory) = MemoryDue s count (record { book = book; line = line })
MemoryAt s count book h = Unit {0}

-- these jobs are the first commands of a walk, and their reader ends so behind them
pub record EndsBehind (limits : Limits) (budget : ℕ) (own : Option (List ℕ)) (w : Walk) (jobs : List (Job × Bool)) (e : End) : Type 0 where
  pub jobs_are : AreJobsBehind limits budget own no_theory w.commands (plain_jobs jobs)
  pub reader : EndsReading limits budget own w (length jobs) e

-- this call failed behind these jobs: they are all commands of the books as far as those were given, and the first ones of the whole books
pub record EndsFront (s : Setting) (budget : ℕ) (shelf : ShelfState) (jobs : List (Job × Bool)) (failure : Failure) (e : End) : Type 0 where
  pub given : List Given
  pub left : AreLeft s given (shelf.left ∷ shelf.aside)
  pub ends : EndsBehind s.limits budget s.own (walk_in s (given_till s given failure)) jobs e
  pub begins : AreJobsBehind s.limits budget s.own no_theory (walk_in s (whole_library s)).commands (plain_jobs jobs)

-- these jobs are the first commands of the books, and this is why no other follows, where this is the book being read
abbrev pub EndsBooks : Setting → ℕ → ShelfState → List (Job × Bool) → Key → Halt → Type 0
EndsBooks s budget shelf jobs book halt.Unread = EndsFront s budget shelf jobs of_read (end_at book halt.Unread)
EndsBooks s budget shelf jobs book (halt.Unopened m) =
    EndsFront s budget shelf jobs (of_opening m) (end_at book (halt.Unopened m))
    × EndsBehind s.limits budget s.own (walk_in s (without (Some m) (whole_library s))) jobs (end_at book (halt.Unopened m))
EndsBooks s budget shelf jobs book h = EndsBehind s.limits budget s.own (walk_in s (whole_library s)) jobs (end_at book h) × MemoryAt s (length jobs) book h

-- what a turn comes to
abbrev pub StepsTo : Books → Lectern → ShelfState → Result Unit Halt → Type 0
StepsTo books l shelf (Ok u) = (done : List Placed) × Stands books done l shelf
StepsTo books l shelf (Err h) = EndsBooks (setting_of l.walker.root books) l.desk.budget shelf (known_at l.desk) l.walker.top.«module» h

-- ---- a theory is read

-- nothing was read yet, where the file is open
pub record IsBegun (l : Lectern) (shelf : ShelfState) : Type 0 where
  pub ready : IsReady l shelf
  pub fresh : desk.IsFresh l.desk
  pub given : (books : Books) → shelf.books ≡ Some books → HasGiven books [] shelf l.walker

-- a theory was read, which left these jobs, and the board was sealed
pub record ReadsBooks (root : Root) (budget : ℕ) (old new : ShelfState) (jobs : List (Job × Bool)) (sealed : Option End) (titles : List Title) : Type 0 where
  pub book : Key
  pub why : Halt
  pub few : length jobs ≤ root.limits.commands
  pub ends : (books : Books) → old.books ≡ Some books → EndsBooks (setting_of root books) budget new jobs book why
  pub books_are : new.books ≡ old.books
  pub counts : HaltCounts (book_named (string_bytes root.file)) old new why
  pub sealed_by : sealed ≡ Some (end_at book why)
  pub titled : titles ≡ job_titles job_of jobs
