-- For callers: what the counts of faults say of a reading.
use Rattle.std.specs.Prelude.{◌≡◌, ◌≤◌, ℕ, List, Result, Err}
use Rattle.dk_io.specs.Causes.{Rose}
use Rattle.file_reader.specs.declared.reader.ReadEnd.{ReadEnd}
use Rattle.file_reader.specs.declared.reader.ReadEnd.TheVariants.{Unread}

-- the count of failed reads rose where a read failed, and stands where none did
abbrev pub RoseByAnswer : {A : Type 0} → ℕ → ℕ → Result A ReadEnd → Type 0
RoseByAnswer before now (Err Unread) = Rose before now
RoseByAnswer before now answer = now ≡ before

-- a count for each name may rise where a read failed, and stands where none did
abbrev pub MayRiseByAnswer : {A : Type 0} → (List ℕ → ℕ) → (List ℕ → ℕ) → Result A ReadEnd → Type 0
MayRiseByAnswer before now (Err Unread) = (name : List ℕ) → before name ≤ now name
MayRiseByAnswer before now answer = (name : List ℕ) → now name ≡ before name
