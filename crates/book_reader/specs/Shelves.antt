-- Trusted: a shelf as its meanings tell it, and that no call of it failed.
use Rattle.std.specs.Prelude.{◌≡◌, ℕ, Bool, List, Option}
use Rattle.dk_io.specs.Bytes.{Books}
use Rattle.dk_io.specs.declared.shelf.Shelf.{Ghosts as Shelf}

-- a shelf, as its meanings tell it
pub record ShelfState : Type 0 where
  pub books : Option Books
  pub is_open : Bool
  pub left : Option (List ℕ)
  pub aside : List (Option (List ℕ))
  pub faults : ℕ
  pub missed : List ℕ → ℕ

-- the state of a shelf, of the members that its trait has
abbrev pub shelf_of : {S : Type 0} → Shelf S → S → ShelfState
shelf_of m shelf = record {
  books = m.books shelf;
  is_open = m.is_open shelf;
  left = m.left shelf;
  aside = m.aside shelf;
  faults = m.faults shelf;
  missed = m.missed shelf;
}

-- no call of the shelf failed
pub record HasHeld (old new : ShelfState) : Type 0 where
  pub faults : new.faults ≡ old.faults
  pub missed : (name : List ℕ) → new.missed name ≡ old.missed name
