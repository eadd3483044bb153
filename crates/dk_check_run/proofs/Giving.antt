-- What is left of a book in memory once all that was given of it is read.
use Rattle.std.proofs.Common.{◌≡◌, ℕ, Bool, true, false, List, [], ◌∷◌, ◌++◌, length, drop, refl, ap}
use Rattle.std.specs.Prelude.{◌==◌, if◌then◌else◌}
use Rattle.dk_check_run.specs.Held.{held_left}

none_left : (xs : List ℕ) → drop (length xs) xs ≡ []
none_left [] = refl
none_left (x ∷ xs) = none_left xs

pub all_given : (faults : ℕ) (bytes rest : List ℕ) → held_left faults (length bytes) bytes rest ≡ rest
all_given faults bytes rest = by (faults == 0)
  where
    by : (b : Bool) → (if b then drop (length bytes) bytes ++ rest else rest) ≡ rest
    by true = ap (λ xs. xs ++ rest) (none_left bytes)
    by false = refl
