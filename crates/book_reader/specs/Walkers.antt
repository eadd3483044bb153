-- For proofs: where the reading of several books stands, and what one turn of it comes to.
use Rattle.std.specs.Prelude.{◌≡◌, ℕ, ◌-◌, Bool, true, false, List, [], ◌∷◌, ◌++◌, length, map, reverse, Option, Some, None}
use Rattle.std.specs.List.{list_any}
use Rattle.std.specs.Str.{bytes_eq}
use Rattle.std.specs.String.{string_bytes}
use Rattle.dk_io.specs.Bytes.{Books, book_of}
use Rattle.dk_parser.specs.RawViews.{written_command}
use Rattle.dk_parser.specs.Modules.{is_directive}
use Rattle.dk_parser.specs.Written.{WrittenCommand}
use Rattle.theory_walk.specs.BookNames.{book_named}
use Rattle.theory_walk.specs.Libraries.{BookReading, BookStep, BookTail, Key, Library, command_step, need, opened, steps_in}
use Rattle.theory_walk.specs.Walks.{Placed, Walk, with_commands}
use Rattle.file_reader.specs.declared.reader.Reader.{Reader}
use Rattle.file_reader.specs.Progress.{IsBehind}
use Rattle.book_reader.specs.declared.walker.Frame.{Frame}
use Rattle.book_reader.specs.declared.walker.Item.{Item}
use Rattle.book_reader.specs.declared.walker.Root.{Root}
use Rattle.book_reader.specs.declared.walker.Walker.{Walker}
use Rattle.book_reader.specs.Shelved.{Setting, same_key, walk_in, whole_library}
use Rattle.book_reader.specs.Shelves.{ShelfState}
use Rattle.book_reader.specs.Stacks.{Rest, walk_stack}

-- an open book: its reader, and the steps of the item at hand that are still to be gone through
pub record Open : Type 0 where
  pub book : Key
  pub reader : Reader
  pub pending : List BookStep

-- so many needs of a command or directive are left, and then the command
abbrev pub steps_behind : WrittenCommand → List (List ℕ) → List BookStep
steps_behind c ms = map (need (is_directive c.form) c.line) ms ++ command_step (is_directive c.form) c

abbrev pub pending_of : Option Item → List BookStep
pending_of None = []
pending_of (Some i) = steps_behind (written_command i.raw) (reverse i.needs.items)

abbrev pub open_of : Frame → Open
open_of f = record { book = f.module; reader = f.reader; pending = pending_of f.item }

abbrev pub opens_below : Walker → List Open
opens_below w = map open_of (reverse w.below.items)

abbrev pub opens_of : Walker → List Open
opens_of w = open_of w.top ∷ opens_below w

abbrev pub books_in : List Open → List Key
books_in os = map (λ (o : Open). o.book) os

-- ---- keys and modules

abbrev pub has : List (List ℕ) → List ℕ → Bool
has known m = list_any (bytes_eq m) known

abbrev pub has_key : List Key → Key → Bool
has_key books k = list_any (λ b. same_key b k) books

-- no book is open twice
abbrev pub AreDistinct : List Key → Type 0
AreDistinct [] = Unit {0}
AreDistinct (k ∷ ks) = (has_key ks k ≡ false) × AreDistinct ks

-- each open book but the first opened is that of a module, one of those opened
abbrev pub AreKnown : List (List ℕ) → List Open → Type 0
AreKnown known [] = Unit {0}
AreKnown known (o ∷ []) = Unit {0}
AreKnown known (o ∷ p ∷ os) = ((m : List ℕ) × (o.book ≡ Some m) × (has known m ≡ true)) × AreKnown known (p ∷ os)

-- ---- what is left of the open books, in a library

-- what is left of a book, of which these items are to come
abbrev pub rest_behind : Open → List WrittenCommand → BookTail → Rest
rest_behind o later tail = record { book = o.book; steps = o.pending ++ steps_in later; tail = tail }

-- the library has this of the book: the items that were read of it, and more
pub record IsRest (lib : Library) (o : Open) (done : List WrittenCommand) (r : Rest) : Type 0 where
  pub reading : BookReading
  pub book_is : lib o.book ≡ opened reading
  pub later : List WrittenCommand
  pub begins : reading.items ≡ done ++ later
  pub rest_is : r ≡ rest_behind o later reading.tail

abbrev pub AreRests : Library → List Open → List (List WrittenCommand) → List Rest → Type 0
AreRests lib [] [] [] = Unit {0}
AreRests lib (o ∷ os) (d ∷ ds) (r ∷ rs) = IsRest lib o d r × AreRests lib os ds rs
AreRests lib os ds rs = ⊥

-- the library goes on with the open books, and has what was read of the others
pub record Agrees (whole lib : Library) (os : List Open) (known : List (List ℕ)) (dones : List (List WrittenCommand)) (rests : List Rest) : Type 0 where
  pub closed : (m : List ℕ) → has known m ≡ true → has_key (books_in os) (Some m) ≡ false → lib (Some m) ≡ whole (Some m)
  pub rests_are : AreRests lib os dones rests

abbrev pub stack_in : Setting → Library → List Open → List Rest → List (List ℕ) → Walk
stack_in s lib os rests known = walk_stack s.most s.own lib (s.most.files - length os) rests known

-- in every such library the walk has these commands and goes on with the rest
abbrev pub LeadsTo : Setting → List Open → List (List ℕ) → List (List WrittenCommand) → List Placed → Type 0
LeadsTo s os known dones done = (lib : Library) (rests : List Rest) → Agrees (whole_library s) lib os known dones rests
    → walk_in s lib ≡ with_commands done (stack_in s lib os rests known)

-- ---- the open books on the shelf

-- the shelf has the book, and its reader stands behind these items of it
pub record IsOpen (s : Setting) (o : Open) (done : List WrittenCommand) (left : Option (List ℕ)) : Type 0 where
  pub bytes : List ℕ
  pub has_book : book_of s.books (s.named o.book) ≡ Some bytes
  pub behind : IsBehind s.limits bytes done left o.reader

abbrev pub AreOpen : Setting → List Open → List (List WrittenCommand) → List (Option (List ℕ)) → Type 0
AreOpen s [] [] lefts = Unit {0}
AreOpen s (o ∷ os) (d ∷ ds) (l ∷ lefts) = IsOpen s o d l × AreOpen s os ds lefts
AreOpen s os ds lefts = ⊥

abbrev pub lefts_of : ShelfState → List (Option (List ℕ))
lefts_of shelf = shelf.left ∷ shelf.aside

-- ---- where it stands

-- these commands were given, the first of the walk
pub record IsAmong (s : Setting) (done : List Placed) (os : List Open) (known : List (List ℕ)) (shelf : ShelfState) : Type 0 where
  pub dones : List (List WrittenCommand)
  pub on_shelf : AreOpen s os dones (lefts_of shelf)
  pub distinct : AreDistinct (books_in os)
  pub are_known : AreKnown known os
  pub leads : LeadsTo s os known dones done

-- the setting in which these books are read
abbrev pub setting_of : Root → Books → Setting
setting_of root books = record { limits = root.limits; most = root.most; own = root.own; named = book_named (string_bytes root.file); books = books }

-- the walker has given these commands of the books
abbrev pub HasGiven : Books → List Placed → ShelfState → Walker → Type 0
HasGiven books done shelf w = IsAmong (setting_of w.root books) done (opens_of w) w.opened shelf
