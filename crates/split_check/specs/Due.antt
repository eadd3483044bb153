-- For proofs: what a part comes to, want of memory aside.
use Rattle.std.specs.Prelude.{◌≡◌, ◌⊎◌, List, [], ◌∷◌}
use Rattle.split_parts.specs.declared.part.PartOut.TheVariants.{Memory}
use Rattle.split_parts.specs.declared.part.PartResult.{PartResult}

-- this, or want of memory
abbrev pub IsDue : PartResult → PartResult → Type 0
IsDue due r = (r ≡ due) ⊎ (r.out ≡ Memory)

-- of each, in order
abbrev pub AreDue : List PartResult → List PartResult → Type 0
AreDue [] [] = Unit {0}
AreDue (d ∷ ds) (r ∷ rs) = IsDue d r × AreDue ds rs
AreDue ds rs = ⊥
