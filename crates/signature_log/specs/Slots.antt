-- For proofs: values at numbers, in blocks that lists of blocks share.
use Rattle.std.specs.Prelude.{ℕ, ◌≡◌, ◌≢◌, ◌/◌, ◌%◌, Option, Some, None, List, get_or}

-- the same values, but for this one at a number
pub record IsPut {X : Type 0} (old new : ℕ → Option X) (number : ℕ) (value : X) : Type 0 where
  pub here : new number ≡ Some value
  pub others : (n : ℕ) → n ≢ number → new n ≡ old n

-- what a cell of a block holds
abbrev pub cell_at : {X : Type 0} → List (Option X) → ℕ → Option X
cell_at cells n = get_or cells n None

-- the value in a block, where there is a block
abbrev pub slot_at : {B X : Type 0} → (B → ℕ → Option X) → Option B → ℕ → Option X
slot_at at None n = None
slot_at at (Some slot) n = at slot n

-- the value at a number in a list of blocks of so many numbers each
abbrev pub fork_at : {B X : Type 0} → (B → ℕ → Option X) → ℕ → List (Option B) → ℕ → Option X
fork_at at span slots n = slot_at at (cell_at slots (n / span)) (n % span)
