-- For callers: what parts come to, one after the other, with one budget for all.
use Rattle.std.specs.Prelude.{ℕ, ◌+◌, ◌-◌, Bool, true, false, ◌||◌, nat_lt, List, [], ◌∷◌, if◌then◌else◌}
use Rattle.dk_model.specs.Typing.{Judged, answer, refused, ended}
use Rattle.split_parts.specs.declared.part.PartOut.{PartOut}
use Rattle.split_parts.specs.declared.part.PartOut.TheVariants.{Fine, Refused, Ended, Memory}
use Rattle.split_parts.specs.declared.part.PartResult.{PartResult}

abbrev pub is_fine : PartOut → Bool
is_fine Fine = true
is_fine o = false

abbrev pub is_ended : PartOut → Bool
is_ended Ended = true
is_ended o = false

-- the elements up to and with the first that isn't fine, or all
abbrev pub up_to_fault : List PartResult → List PartResult
up_to_fault [] = []
up_to_fault (p ∷ ps) = if is_fine p.out then p ∷ up_to_fault ps else (p ∷ [])

abbrev pub units_by : PartOut → ℕ → ℕ
units_by Memory n = 0
units_by o n = n

-- want of memory adds none
abbrev pub units_of : PartResult → ℕ
units_of p = units_by p.out p.units

abbrev pub all_units : List PartResult → ℕ
all_units [] = 0
all_units (p ∷ ps) = units_of p + all_units ps

-- the units of these elements
abbrev pub total : List PartResult → ℕ
total ps = all_units (up_to_fault ps)

-- the first that isn't fine
abbrev pub fault_of : List PartResult → PartOut
fault_of [] = Fine
fault_of (p ∷ ps) = if is_fine p.out then fault_of ps else p.out

abbrev pub ended_with : ℕ → PartResult
ended_with budget = record { out = Ended; units = budget }

-- with so many units taken before
abbrev pub combined_behind : ℕ → List PartResult → ℕ → PartResult
combined_behind u ps budget = if is_ended (fault_of ps) || nat_lt budget (u + total ps) then ended_with budget else record { out = fault_of ps; units = u + total ps }

-- ended exactly where the sum passes the budget or the first that isn't fine is; else that element's fault
abbrev pub combined : List PartResult → ℕ → PartResult
combined ps budget = if is_ended (fault_of ps) || nat_lt budget (total ps) then ended_with budget else record { out = fault_of ps; units = total ps }

-- what typing with a budget came to
abbrev pub part : {A : Type 0} → ℕ → Judged A → PartResult
part budget (answer a n) = record { out = Fine; units = budget - n }
part budget (refused c n) = record { out = Refused c; units = budget - n }
part budget ended = ended_with budget
