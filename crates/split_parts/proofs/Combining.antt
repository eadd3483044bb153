-- What parts come to, from the first of them on.
use Rattle.std.proofs.Common.{List, [], ◌∷◌, ℕ, ◌≡◌, ◌<◌, ◌≤◌, ◌+◌, ◌-◌, Bool, true, false, ◌||◌, nat_lt, refl, ap, ◌∙◌, arith, if◌then◌else◌}
use Rattle.std.proofs.lemmas.Bool.Decides.{nat_tests}
use Rattle.split_parts.specs.Parts.{is_ended, total, fault_of, units_of, ended_with, combined_behind, combined}
use Rattle.split_parts.specs.declared.part.PartOut.{PartOut}
use Rattle.split_parts.specs.declared.part.PartOut.TheVariants.{Fine, Refused, Ended, Memory}
use Rattle.split_parts.specs.declared.part.PartResult.{PartResult}

either_true : {A : Type 0} (b c : Bool) (x y : A) → c ≡ true → (if b || c then x else y) ≡ x
either_true true c x y e = refl
either_true false c x y e = ap (λ d. if d then x else y) e

first_true : {A : Type 0} (b c : Bool) (x y : A) → b ≡ true → (if b || c then x else y) ≡ x
first_true b c x y e = ap (λ d. if d || c then x else y) e

neither_true : {A : Type 0} (b c : Bool) (x y : A) → b ≡ false → c ≡ false → (if b || c then x else y) ≡ y
neither_true b c x y e f = ap (λ d. if d || c then x else y) e ∙ ap (λ d. if d then x else y) f

is_below : (a b : ℕ) → a < b → nat_lt a b ≡ true
is_below a b l = grind (arith, nat_tests)

is_from : (a b : ℕ) → b ≤ a → nat_lt a b ≡ false
is_from a b l = grind (arith, nat_tests)

pub behind_none : (u T : ℕ) → u ≤ T → combined_behind u [] T ≡ record { out = Fine; units = u }
behind_none u T l = neither_true false (nat_lt T (u + 0)) (ended_with T) (record { out = Fine; units = u + 0 }) refl (is_from T (u + 0) (omega arith))
    ∙ ap (λ m. record { out = Fine; units = m }) (let z : u + 0 ≡ u = omega arith in z)

at_least : (o : PartOut) (n : ℕ) (ps : List PartResult) → units_of (record { out = o; units = n }) ≤ total (record { out = o; units = n } ∷ ps)
at_least Fine n ps = omega arith
at_least (Refused c) n ps = omega arith
at_least Ended n ps = omega arith
at_least Memory n ps = omega arith

pub behind_over : (u T : ℕ) (p : PartResult) (ps : List PartResult) → u ≤ T → T - u < units_of p → combined_behind u (p ∷ ps) T ≡ ended_with T
behind_over u T p ps le l = either_true (is_ended (fault_of (p ∷ ps))) (nat_lt T (u + total (p ∷ ps))) (ended_with T) (record { out = fault_of (p ∷ ps); units = u + total (p ∷ ps) })
    (is_below T (u + total (p ∷ ps)) (omega (arith, at_least p.out p.units ps)))

fine_here : (u T n : ℕ) (ps : List PartResult) → combined_behind u (record { out = Fine; units = n } ∷ ps) T ≡ combined_behind (u + n) ps T
fine_here u T n ps = let e : u + (n + total ps) ≡ u + n + total ps = omega arith in
    ap (λ m. if is_ended (fault_of ps) || nat_lt T m then ended_with T else record { out = fault_of ps; units = m }) e

pub behind_fine : (u T : ℕ) (p : PartResult) (ps : List PartResult) → p.out ≡ Fine → combined_behind u (p ∷ ps) T ≡ combined_behind (u + units_of p) ps T
behind_fine u T p ps e = by p.out e
  where
    by : (o : PartOut) → o ≡ Fine → combined_behind u (record { out = o; units = p.units } ∷ ps) T ≡ combined_behind (u + units_of (record { out = o; units = p.units })) ps T
    by Fine e = fine_here u T p.units ps
    by (Refused c) e = cc
    by Ended e = cc
    by Memory e = cc

pub behind_ended : (u T : ℕ) (p : PartResult) (ps : List PartResult) → p.out ≡ Ended → combined_behind u (p ∷ ps) T ≡ ended_with T
behind_ended u T p ps e = by p.out e
  where
    by : (o : PartOut) → o ≡ Ended → combined_behind u (record { out = o; units = p.units } ∷ ps) T ≡ ended_with T
    by Ended e = refl
    by (Refused c) e = cc
    by Fine e = cc
    by Memory e = cc

pub behind_fault : (u T : ℕ) (p : PartResult) (ps : List PartResult) → ¬ (p.out ≡ Fine) → ¬ (p.out ≡ Ended) → u + units_of p ≤ T
    → combined_behind u (p ∷ ps) T ≡ record { out = p.out; units = u + units_of p }
behind_fault u T p ps fine ended l = by p.out fine ended l
  where
    by : (o : PartOut) → ¬ (o ≡ Fine) → ¬ (o ≡ Ended) → u + units_of (record { out = o; units = p.units }) ≤ T
        → combined_behind u (record { out = o; units = p.units } ∷ ps) T ≡ record { out = o; units = u + units_of (record { out = o; units = p.units }) }
    by Fine f e l = absurd (f refl)
    by Ended f e l = absurd (e refl)
    by (Refused c) f e l = let z : u + (p.units + 0) ≡ u + p.units = omega arith in
        neither_true false (nat_lt T (u + (p.units + 0))) (ended_with T) (record { out = Refused c; units = u + (p.units + 0) }) refl (is_from T (u + (p.units + 0)) (omega arith))
        ∙ ap (λ m. record { out = Refused c; units = m }) z
    by Memory f e l = neither_true false (nat_lt T (u + (0 + 0))) (ended_with T) (record { out = Memory; units = u + (0 + 0) }) refl (is_from T (u + (0 + 0)) (omega arith))
        ∙ ap (λ m. record { out = Memory; units = m }) (let z : u + (0 + 0) ≡ u + 0 = omega arith in z)

pub behind_nothing : (ps : List PartResult) (T : ℕ) → combined ps T ≡ combined_behind 0 ps T
behind_nothing ps T = ap (λ m. if is_ended (fault_of ps) || nat_lt T m then ended_with T else record { out = fault_of ps; units = m }) (let e : total ps ≡ 0 + total ps = omega arith in e)
