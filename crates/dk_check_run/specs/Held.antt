-- For proofs: a book that was given from a shelf and lies in memory.
use Rattle.std.specs.Prelude.{◌≡◌, ◌==◌, ◌⊎◌, ◌≤◌, ◌<◌, ℕ, List, [], ◌∷◌, ◌++◌, drop, length, unwrap_or, if◌then◌else◌, Option, None, Some}
use Rattle.dk_io.specs.Bytes.{Books}
use Rattle.dk_io.specs.Causes.{Rose}
use Rattle.dk_model.specs.declared.limits.Limits.{Limits}
use Rattle.command_line.specs.Requests.{PruneRequest}
use Rattle.theory_walk.specs.BookNames.{own_module}
use Rattle.book_reader.specs.Shelves.{ShelfState}
use Rattle.prune_file.specs.Pruned.{IsPruned, IsUnknown}
use Rattle.dk_check_run.specs.Prune.{unknown}
use Rattle.dk_check_run.specs.Run.{SinkState, Writes, memory_at_once}
use Rattle.dk_check_run.specs.declared.held.Giving.{Giving}
use Rattle.dk_check_run.specs.declared.held.Giving.TheVariants as giving

-- the bytes were taken from what was left, where it is told
abbrev pub Took : Option (List ℕ) → Option (List ℕ) → List ℕ → Type 0
Took None after bytes = after ≡ None
Took (Some before) after bytes = (rest : List ℕ) × (before ≡ bytes ++ rest) × (after ≡ Some rest)

-- what is left, where it is told
abbrev pub left_in : Option (List ℕ) → List ℕ
left_in left = unwrap_or left []

-- how the giving of a book ended, and what the shelf's counts say of it
abbrev pub EndsGiving : Giving → ShelfState → ShelfState → Type 0
EndsGiving giving.Whole old new = (left_in new.left ≡ []) × (new.faults ≡ old.faults) × ((name : List ℕ) → new.missed name ≡ old.missed name)
EndsGiving giving.Failed old new = Rose old.faults new.faults
EndsGiving giving.TooLong old new = (new.faults ≡ old.faults) × ((name : List ℕ) → new.missed name ≡ old.missed name)

-- the bytes that were given of the book that is open, and that the others lie as they did
pub record GivesBook (old new : ShelfState) (bytes : List ℕ) (how : Giving) : Type 0 where
  pub took : Took old.left new.left bytes
  pub ends : EndsGiving how old new
  pub books : new.books ≡ old.books
  pub aside : new.aside ≡ old.aside

-- only a book that is too long gives more bytes than so many
abbrev pub FitsGiving : ℕ → List ℕ → Giving → Type 0
FitsGiving most bytes giving.Whole = length bytes ≤ most
FitsGiving most bytes giving.Failed = length bytes ≤ most
FitsGiving most bytes giving.TooLong = most < length bytes

-- ---- the shelf in memory

-- what isn't given of a book: nothing, where it was given to its end
abbrev pub rest_of : Giving → Option (List ℕ) → List ℕ
rest_of giving.Whole left = []
rest_of giving.Failed left = left_in left
rest_of giving.TooLong left = left_in left

-- its books: the file with all that it has, and what was given of it
abbrev pub held_books : List ℕ → List ℕ → List ℕ → Books
held_books file bytes rest = (file, bytes ++ rest) ∷ ([], bytes) ∷ []

-- what is left of it: where a read failed that is what was not given
abbrev pub held_left : ℕ → ℕ → List ℕ → List ℕ → List ℕ
held_left faults at bytes rest = if faults == 0 then drop at bytes ++ rest else rest

-- ---- what is written of an accepted file

abbrev pub PutsPruned : Limits → PruneRequest → List ℕ → SinkState → SinkState → ℕ → Type 0
PutsPruned limits q bytes before after result =
    ((text : List ℕ) × IsPruned limits (own_module q.file) q.budget q.name bytes text × Writes before after text 0 result)
    ⊎ ((IsUnknown limits q.name bytes × Writes before after (unknown q.name) 1 result) ⊎ Writes before after memory_at_once 4 result)
