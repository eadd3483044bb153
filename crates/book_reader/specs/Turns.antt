-- For proofs: the parts of a turn.
use Rattle.std.specs.Prelude.{◌≡◌, ℕ, Bool, List, [], ◌∷◌, None, Result, Ok, Err}
use Rattle.dk_io.specs.Bytes.{Books}
use Rattle.theory_walk.specs.Libraries.{need}
use Rattle.theory_walk.specs.Walks.{Placed}
use Rattle.book_reader.specs.declared.walker.Turn.{Turn}
use Rattle.book_reader.specs.declared.walker.Turn.TheVariants as turn
use Rattle.book_reader.specs.declared.walker.WalkEnd.{WalkEnd}
use Rattle.book_reader.specs.declared.walker.WalkEnd.TheVariants as end
use Rattle.book_reader.specs.declared.walker.Walker.{Walker}
use Rattle.book_reader.specs.Shelves.{ShelfState}
use Rattle.book_reader.specs.Walkers.{IsAmong, Open, open_of, opens_below, opens_of, setting_of}

-- an open book with a need that is still to be gone through
abbrev pub with_need : Bool → ℕ → List ℕ → Open → Open
with_need directive line m o = record { book = o.book; reader = o.reader; pending = need directive line m ∷ o.pending }

-- the walker has given these commands, and this need of the book being read comes next
abbrev pub NeedsNext : Books → List Placed → Bool → ℕ → List ℕ → Walker → ShelfState → Type 0
NeedsNext books done directive line m w shelf =
    IsAmong (setting_of w.root books) done (with_need directive line m (open_of w.top) ∷ opens_below w) w.opened shelf

-- nothing of the item at hand is left
abbrev pub IsIdle : Walker → Type 0
IsIdle w = w.top.item ≡ None

-- the book that was put aside last is read on; or none was
abbrev pub GivesUp : Walker → Walker → ShelfState → ShelfState → Result Turn WalkEnd → Type 0
GivesUp old new s t (Ok u) = (u ≡ turn.Left) × (opens_below old ≡ opens_of new) × (new.opened ≡ old.opened) × (s.aside ≡ t.left ∷ t.aside)
GivesUp old new s t (Err end.Whole) = (opens_below old ≡ []) × (new.opened ≡ old.opened) × (t ≡ s)
GivesUp old new s t (Err e) = ⊥
