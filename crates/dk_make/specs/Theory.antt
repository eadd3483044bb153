-- Trusted: the theory that is made: addition of numerals, and theorems by computation (docs/generator.md).
use Rattle.std.specs.Prelude.{ℕ, zero, suc, ◌+◌, ◌%◌, List, [], ◌∷◌, ◌++◌, codes, decimal}

-- the pieces, one after the other
abbrev pub concat : List (List ℕ) → List ℕ
concat [] = []
concat (piece ∷ pieces) = piece ++ concat pieces

-- the eight lines before the theorems
abbrev pub beginning : List ℕ
beginning = codes "nat : Type.\nz : nat.\ns : nat -> nat.\ndef plus : nat -> nat -> nat.\n[n] plus z n --> n\n[m, n] plus (s m) n --> s (plus m n).\neq : nat -> nat -> Type.\nrefl : n : nat -> eq n n.\n"

-- a number as so many successors of zero
abbrev pub numeral : ℕ → List ℕ
numeral zero = codes "z"
numeral (suc k) = concat (codes "(s " ∷ numeral k ∷ codes ")" ∷ [])

-- the line of the theorem of this number: a sum is its value
abbrev pub theorem_of : ℕ → List ℕ
theorem_of i = concat (
    codes "thm t" ∷ decimal i ∷ codes " : eq (plus " ∷ numeral (i % 7) ∷ codes " " ∷ numeral (i % 5) ∷ codes ") " ∷ numeral (i % 7 + i % 5)
    ∷ codes " := refl " ∷ numeral (i % 7 + i % 5) ∷ codes ".\n" ∷ []
    )

-- so many theorems, the first of them of this number
abbrev pub theorems : ℕ → ℕ → List ℕ
theorems i zero = []
theorems i (suc count) = theorem_of i ++ theorems (i + 1) count

-- the theory with so many theorems
abbrev pub theory_of : ℕ → List ℕ
theory_of n = beginning ++ theorems 1 n
