-- For callers: what a turn of the reading of several books comes to, and how it ends.
use Rattle.std.specs.Prelude.{◌≡◌, ◌≤◌, ◌<◌, ℕ, ◌+◌, ◌-◌, true, false, List, [], ◌∷◌, ◌++◌, length, reverse, vec_len, Some, Result, Ok, Err}
use Rattle.dk_io.specs.Bytes.{Books}
use Rattle.dk_io.specs.Causes.{Rose}
use Rattle.dk_parser.specs.RawViews.{written_command}
use Rattle.dk_parser.specs.declared.raw.Raw.{Raw}
use Rattle.theory_walk.specs.declared.needs.Standing.TheVariants.{New}
use Rattle.theory_walk.specs.BookNames.{book_named}
use Rattle.theory_walk.specs.Libraries.{Key}
use Rattle.theory_walk.specs.Walks.{Placed, standing_of, Reached, Walk, ends, goes_on, not_opened, refused_at, unread_at}
use Rattle.file_reader.specs.Progress.{HasBegun}
use Rattle.book_reader.specs.declared.walker.Frame.{Frame}
use Rattle.book_reader.specs.declared.walker.Turn.{Turn}
use Rattle.book_reader.specs.declared.walker.Turn.TheVariants as turn
use Rattle.book_reader.specs.declared.walker.WalkEnd.{WalkEnd}
use Rattle.book_reader.specs.declared.walker.WalkEnd.TheVariants as end
use Rattle.book_reader.specs.declared.walker.Walker.{Walker}
use Rattle.book_reader.specs.Shelved.{AreLeft, Given, MemoryDue, Setting, given_library, walk_in, whole_library, without}
use Rattle.book_reader.specs.Shelves.{ShelfState}
use Rattle.book_reader.specs.Walkers.{HasGiven, books_in, opens_below, opens_of, setting_of}

abbrev pub walk_with : List Placed → Reached → Walk
walk_with done r = record { commands = done; reached = r }

-- the end is that of the whole books; after a failed read or opening it is that of the bytes given
abbrev pub EndsOf : Setting → List Placed → Key → ShelfState → WalkEnd → Type 0
EndsOf s done book shelf end.Whole = (known : List (List ℕ)) × (walk_in s (whole_library s) ≡ walk_with done (goes_on known))
EndsOf s done book shelf (end.Refused line code) =
    walk_in s (whole_library s) ≡ walk_with done (ends (refused_at (record { book = book; line = line }) code))
EndsOf s done book shelf end.Unread =
    (given : List Given) × AreLeft s given (shelf.left ∷ shelf.aside)
    × ((line : ℕ) × (walk_in s (given_library s given) ≡ walk_with done (ends (unread_at (record { book = book; line = line })))))
EndsOf s done book shelf (end.Unopened m line) =
    (given : List Given) × AreLeft s given (shelf.left ∷ shelf.aside)
    × (walk_in s (without (Some m) (given_library s given)) ≡ walk_with done (ends (not_opened (record { book = book; line = line }) m)))
    × (walk_in s (without (Some m) (whole_library s)) ≡ walk_with done (ends (not_opened (record { book = book; line = line }) m)))
EndsOf s done book shelf (end.NoMemory line) = MemoryDue s (length done) (record { book = book; line = line })

-- the walk through the whole books begins with these commands
abbrev pub BeginsWalk : Setting → List Placed → Type 0
BeginsWalk s done = (later : List Placed) × ((walk_in s (whole_library s)).commands ≡ done ++ later)

-- a command of the book being read
abbrev pub placed : Walker → Raw → Placed
placed w raw = record { book = w.top.module; command = written_command raw }

-- what a turn comes to, behind these commands; a book that was opened is due at its first line
abbrev pub ComesTo : Books → List Placed → Walker → ShelfState → Result Turn WalkEnd → Type 0
ComesTo books done w shelf (Ok turn.Entered) =
    HasGiven books done shelf w × MemoryDue (setting_of w.root books) (length done) (record { book = w.top.module; line = 1 })
ComesTo books done w shelf (Ok (turn.Command raw)) = HasGiven books (done ++ placed w raw ∷ []) shelf w
ComesTo books done w shelf (Ok t) = HasGiven books done shelf w
ComesTo books done w shelf (Err e) = EndsOf (setting_of w.root books) done w.top.module shelf e × BeginsWalk (setting_of w.root books) done

-- ---- which books are open

-- the books that are open, the one being read first
abbrev pub books_open : Walker → List Key
books_open w = books_in (opens_of w)

-- the module isn't that of an open book, and none of those opened before
abbrev pub IsNewTo : Walker → List ℕ → Type 0
IsNewTo w m = standing_of w.root.own w.top.module (books_in (opens_below w)) w.opened m ≡ New

-- a turn opens the book of a module that is new, or gives up the one being read, or leaves them as they are
abbrev pub Moves : Walker → Walker → Result Turn WalkEnd → Type 0
Moves old new (Ok turn.Entered) =
    (m : List ℕ) × IsNewTo old m × (books_open new ≡ Some m ∷ books_open old) × (new.opened ≡ old.opened ++ m ∷ [])
Moves old new (Ok turn.Left) = (book : Key) × (books_open old ≡ book ∷ books_open new) × (new.opened ≡ old.opened)
Moves old new (Ok t) = (books_open new ≡ books_open old) × (new.opened ≡ old.opened)
Moves old new (Err e) = Unit {0}

-- ---- counts and room

-- no count moved
abbrev pub HoldsCounts : ShelfState → ShelfState → Type 0
HoldsCounts old new = (new.faults ≡ old.faults) × ((name : List ℕ) → new.missed name ≡ old.missed name)

-- at a failed read the count of reads rose, at a failed opening that of the name; at any other end no count moved
abbrev pub CausesEnd : List ℕ → ShelfState → ShelfState → WalkEnd → Type 0
CausesEnd file old new end.Unread = Rose old.faults new.faults
CausesEnd file old new (end.Unopened m line) = Rose (old.missed (book_named file (Some m))) (new.missed (book_named file (Some m)))
CausesEnd file old new e = HoldsCounts old new

-- what a turn says of them, where the file has this name
abbrev pub Causes : List ℕ → ShelfState → ShelfState → Result Turn WalkEnd → Type 0
Causes file old new (Ok t) = HoldsCounts old new
Causes file old new (Err e) = CausesEnd file old new e

-- there is room on the shelf for all the books that may be open
pub record HasRoom (files below : ℕ) (shelf : ShelfState) : Type 0 where
  pub files_fit : files ≤ 64
  pub few : below < files
  pub is_open : shelf.is_open ≡ true
  pub all_aside : below ≤ length shelf.aside
  pub room : length shelf.aside ≤ below + 1

-- so many books are put aside below those of the walk
abbrev pub below_file : Walker → ShelfState → ℕ
below_file w shelf = length shelf.aside - vec_len w.below

-- at the end of the file at most so many books are put aside
abbrev pub LeavesRoom : ℕ → ShelfState → WalkEnd → Type 0
LeavesRoom count shelf end.Whole = length shelf.aside ≤ count
LeavesRoom count shelf e = Unit {0}

-- a turn puts none aside below those of the walk; at the end of the file they are all that is put aside
abbrev pub KeepsBelow : {T : Type 0} → Walker → ShelfState → Walker → ShelfState → Result T WalkEnd → Type 0
KeepsBelow w old v new (Ok t) = below_file v new ≡ below_file w old
KeepsBelow w old v new (Err e) = LeavesRoom (below_file w old) new e

-- what is put aside was open before: at most one book, and none where no book was open
pub record LeavesFormer (old new : ShelfState) : Type 0 where
  pub few : length new.aside ≤ 1
  pub none : old.is_open ≡ false → new.aside ≡ []

abbrev pub AreBegun : List Frame → Type 0
AreBegun [] = Unit {0}
AreBegun (f ∷ fs) = HasBegun f.reader × AreBegun fs

-- the next turn may come
pub record IsReady (w : Walker) (shelf : ShelfState) : Type 0 where
  pub room : HasRoom w.root.most.files (vec_len w.below) shelf
  pub top : HasBegun w.top.reader
  pub below : AreBegun (reverse w.below.items)
