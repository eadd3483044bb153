-- Trusted: the books of a shelf as a theory's: whole, or as far as they were given (docs/modules.md).
use Rattle.std.specs.Prelude.{◌≡◌, ◌⊎◌, ℕ, Bool, true, false, List, [], ◌∷◌, ◌++◌, length, take, if◌then◌else◌, Option, Some, None}
use Rattle.std.specs.Str.{bytes_eq}
use Rattle.dk_io.specs.Bytes.{Books, book_of}
use Rattle.dk_model.specs.declared.limits.Limits.{Limits}
use Rattle.dk_lexer.specs.Tokens.{Ending}
use Rattle.dk_lexer.specs.Tokens as tokens
use Rattle.dk_parser.specs.FileReading.{read}
use Rattle.theory_walk.specs.declared.needs.ModuleLimits.{ModuleLimits}
use Rattle.theory_walk.specs.BookReadings.{book_reading, read_whole}
use Rattle.theory_walk.specs.Libraries.{BookReading, Key, Library, Opened, opened, unopened, unread}
use Rattle.theory_walk.specs.Lines.{IsNextLine}
use Rattle.theory_walk.specs.Walks.{Spot, Walk, ends, spot_of, spot_of_end, walk_of}

-- how the books of a shelf are read: within these limits; of these modules at most; the module of the file, if it has one; the name that
-- each book has on the shelf; and the books
pub record Setting : Type 0 where
  pub limits : Limits
  pub most : ModuleLimits
  pub own : Option (List ℕ)
  pub named : Key → List ℕ
  pub books : Books

-- every book of the shelf is read to its end
abbrev pub whole_library : Setting → Library
whole_library s book = read_whole s.limits (book_of s.books (s.named book))

-- the walk through a library in this setting
abbrev pub walk_in : Setting → Library → Walk
walk_in s lib = walk_of s.most s.own lib

abbrev pub same_key : Key → Key → Bool
same_key None None = true
same_key (Some a) (Some b) = bytes_eq a b
same_key a b = false

-- the library without one book, which couldn't be opened
abbrev pub without : Key → Library → Library
without book lib other = if same_key book other then unopened else lib other

-- ---- what was given

-- the bytes that were given of an open book, and what follows them: nothing, or nobody knows
pub record Given : Type 0 where
  pub book : Key
  pub bytes : List ℕ
  pub ending : Ending

-- the open books as far as they were given, and every other book to its end
abbrev pub given_library : Setting → List Given → Library
given_library s [] book = whole_library s book
given_library s (g ∷ gs) book = if same_key g.book book then opened (book_reading s.limits g.bytes g.ending) else given_library s gs book

-- this is left on the shelf of an open book; nothing, where it is known that nothing follows what was given
abbrev pub IsLeft : Setting → Given → Option (List ℕ) → Type 0
IsLeft s g left =
    (rest : List ℕ) × (left ≡ Some rest) × (book_of s.books (s.named g.book) ≡ Some (g.bytes ++ rest)) × (g.ending ≡ tokens.whole → rest ≡ [])

-- this is left of the open books, the one being read first
abbrev pub AreLeft : Setting → List Given → List (Option (List ℕ)) → Type 0
AreLeft s [] lefts = Unit {0}
AreLeft s (g ∷ gs) [] = ⊥
AreLeft s (g ∷ gs) (left ∷ lefts) = IsLeft s g left × AreLeft s gs lefts

-- ---- where memory ended

-- a book cut behind so many commands and directives, the line being that of the next one, or of where it would begin
abbrev pub cut_behind : Setting → List ℕ → ℕ → ℕ → BookReading
cut_behind s bytes count line = record { items = take count (read s.limits bytes tokens.whole).commands; tail = unread line }

pub record IsCut (s : Setting) (book : Key) (o : Opened) : Type 0 where
  pub bytes : List ℕ
  pub has_book : book_of s.books (s.named book) ≡ Some bytes
  pub count : ℕ
  pub line : ℕ
  pub next : IsNextLine s.limits bytes tokens.whole count line
  pub cut_is : o ≡ opened (cut_behind s bytes count line)

-- each book is whole, or cut, or missing
abbrev pub AreCut : Setting → Library → Type 0
AreCut s lib = (book : Key) → (lib book ≡ whole_library s book) ⊎ ((lib book ≡ unopened) ⊎ IsCut s book (lib book))

-- behind so many commands of a walk the next one, or its end, is at this place
abbrev pub IsDueAt : Walk → ℕ → Spot → Type 0
IsDueAt w count spot =
    ((c : _) × (before : _) × (after : _) × (w.commands ≡ before ++ c ∷ after) × (length before ≡ count) × (spot_of c ≡ spot))
    ⊎ ((length w.commands ≡ count) × ((e : _) × (w.reached ≡ ends e) × (spot_of_end e ≡ Some spot)))

-- the command behind so many was due at this place when memory ended, seen from a front of each book
abbrev pub MemoryDue : Setting → ℕ → Spot → Type 0
MemoryDue s count spot = (lib : Library) × AreCut s lib × IsDueAt (walk_in s lib) count spot
