-- For proofs: what a sink in memory and a shelf in memory are, as their callers see them.
use Rattle.std.specs.Prelude.{ℕ, Bool, List, Contains, slice_index_or}
use Rattle.dk_io.specs.Causes.{raised}
use Rattle.dk_io.specs.Bytes.{Books, place_of}

-- calls are numbered from 1; the next one stands in the list
abbrev pub FailsNext : List ℕ → ℕ → Type 0
FailsNext failing calls = Contains failing (raised calls)

-- how many openings of that name failed, by its book's count, or by one count for all names without a book
abbrev pub missed_of : Books → List ℕ → ℕ → List ℕ → ℕ
missed_of books counts others name = slice_index_or counts (place_of books name) others

-- a sink in memory: the bytes that it took, the room for all of them, how many it takes at
-- most in one call, the numbers of the calls that fail, how many calls it had, and how many failed
pub record SinkState : Type 0 where
  pub bytes : List ℕ
  pub room : ℕ
  pub piece : ℕ
  pub failing : List ℕ
  pub calls : ℕ
  pub faults : ℕ

-- a shelf in memory: its books, whether one is open, the bytes that are left of it (none before any is opened) and of
-- each that was put aside, the last one first, how many it gives at most in one read, the numbers of the calls that
-- fail, how many calls it had, how many reads failed, how many openings of each book failed, and how many of all names
-- that it doesn't have
pub record ShelfState : Type 0 where
  pub books : Books
  pub is_open : Bool
  pub left : List ℕ
  pub aside : List (List ℕ)
  pub piece : ℕ
  pub failing : List ℕ
  pub calls : ℕ
  pub faults : ℕ
  pub missed : List ℕ
  pub others : ℕ

-- how many openings of that name failed
abbrev pub missed_by : ShelfState → List ℕ → ℕ
missed_by s name = missed_of s.books s.missed s.others name
