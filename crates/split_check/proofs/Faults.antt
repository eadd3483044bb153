-- What a fault comes to.
use Rattle.std.proofs.Common.{ℕ, ◌≡◌, refl, ap, sym as flip, ◌∙◌, inl, inr}
use Rattle.dk_model.specs.Typing.{Judged, answer, refused, ended}
use Rattle.dk_model.specs.declared.stop.TypeFault.{TypeFault}
use Rattle.dk_model.specs.declared.stop.TypeFault.TheVariants.{Refused, Ended, NoMemory}
use Rattle.infer_check.specs.Given.{Fails}
use Rattle.split_parts.specs.Parts.{part}
use Rattle.split_check.specs.Due.{IsDue}
use Rattle.split_check.specs.Steps.{fault_with}

pub fault_is : {A : Type 0} (B : ℕ) (f : TypeFault) (left : ℕ) (due : Judged A) → ¬ (f ≡ NoMemory) → Fails f left due → fault_with B f left ≡ part B due
fault_is B (Refused c) left due n e = ap (part B) (flip e)
fault_is B Ended left due n e = ap (part B) (flip e.0)
fault_is B NoMemory left due n e = absurd (n refl)

pub fault_due : {A : Type 0} (B : ℕ) (f : TypeFault) (left : ℕ) (due : Judged A) → Fails f left due → IsDue (part B due) (fault_with B f left)
fault_due B (Refused c) left due e = inl (ap (part B) (flip e))
fault_due B Ended left due e = inl (ap (part B) (flip e.0))
fault_due B NoMemory left due e = inr refl

-- what fails has no answer
pub none_answered : {A : Type 0} (f : TypeFault) (left : ℕ) (due : Judged A) → ¬ (f ≡ NoMemory) → Fails f left due → (a : A) (m : ℕ) → due ≡ answer a m → ⊥
none_answered (Refused c) left due n e a m q = no (flip e ∙ q)
  where
    no : refused c left ≡ answer a m → ⊥
    no f = cc
none_answered Ended left due n e a m q = no (flip e.0 ∙ q)
  where
    no : ended ≡ answer a m → ⊥
    no f = cc
none_answered NoMemory left due n e a m q = absurd (n refl)
