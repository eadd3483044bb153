-- Trusted: terms and patterns as written, as plain data: the values of `RawTerm` and `RawPat` without pointers.
use Rattle.std.specs.Prelude.{ℕ, Option, List}

-- a term as written
pub data Written : Type 0 where
  written_name : List ℕ → Written
  written_qualified : List ℕ → List ℕ → Written
  written_star : Written
  written_wild : Written
  written_apply : Written → Written → Written
  written_arrow : Written → Written → Written
  written_product : Option (List ℕ) → Written → Written → Written
  written_bare : Option (List ℕ) → Written → Written
  written_annotated : Option (List ℕ) → Written → Written → Written

-- a pattern as written
pub data WrittenPattern : Type 0 where
  pattern_name : List ℕ → WrittenPattern
  pattern_qualified : List ℕ → List ℕ → WrittenPattern
  pattern_wild : WrittenPattern
  pattern_guard : Written → WrittenPattern
  pattern_apply : WrittenPattern → WrittenPattern → WrittenPattern
  pattern_bare : Option (List ℕ) → WrittenPattern → WrittenPattern
