-- Trusted: why books weren't given to their end, and what was given of them then.
use Rattle.std.specs.Prelude.{ℕ, List, Some}
use Rattle.dk_io.specs.Causes.{Rose}
use Rattle.theory_walk.specs.Libraries.{Key, Library}
use Rattle.book_reader.specs.Shelved.{Given, Setting, given_library, without}
use Rattle.book_reader.specs.Shelves.{ShelfState}

-- a read failed, or the book of this module couldn't be opened
pub data Failure : Type 0 where
  of_read : Failure
  of_opening : List ℕ → Failure

-- the count that says so, where the books have these names
abbrev pub Counted : (Key → List ℕ) → ShelfState → ShelfState → Failure → Type 0
Counted named old new of_read = Rose old.faults new.faults
Counted named old new (of_opening m) = Rose (old.missed (named (Some m))) (new.missed (named (Some m)))

-- the open books as far as they were given, the module that couldn't be opened missing, and every other book whole
abbrev pub given_till : Setting → List Given → Failure → Library
given_till s given of_read = given_library s given
given_till s given (of_opening m) = without (Some m) (given_library s given)
