-- For proofs: what is known of a shelf of real files and of an output: no bytes but those that the system's handles tell.
use Rattle.std.specs.Prelude.{ℕ, Bool, List, Option, None}

-- a shelf of real files: how many calls failed, whether a file is open, what its handle tells to be left of it, and of
-- each that was put aside, the last one first
pub record FileState : Type 0 where
  pub faults : ℕ
  pub opened : Bool
  pub rest : Option (List ℕ)
  pub aside : List (Option (List ℕ))

-- what is known of an output: how many calls failed, and its bytes, where the writer tells them
pub record OutputState : Type 0 where
  pub faults : ℕ
  pub bytes : Option (List ℕ)

-- a book of which no bytes are told
abbrev pub untold : Option (List ℕ) → Option (List ℕ)
untold rest = None
