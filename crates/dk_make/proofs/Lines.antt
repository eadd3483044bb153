-- One theorem after the other.
use Rattle.std.proofs.Common.{◌≡◌, ◌<◌, ◌+◌, ◌-◌, ℕ, zero, suc, List, ◌++◌, sym, ap, ◌∙◌, arith, append_assoc}
use Rattle.std.specs.Prelude.{codes, decimal, [], ◌∷◌, ◌%◌}
use Rattle.dk_make.specs.Theory.{concat, numeral, theorem_of, theorems}

pub theorems_next : (done whole : List ℕ) (i n number : ℕ) → i < n → number ≡ i + 1 → whole ≡ done ++ theorems (i + 1) (n - i) → whole ≡ (done ++ theorem_of number) ++ theorems (i + 1 + 1) (n - (i + 1))
theorems_next done whole i n number lt is before = let m : n - i ≡ suc (n - (i + 1)) = omega arith in
    before ∙ (ap (λ k. done ++ theorems (i + 1) k) m ∙ (ap (λ k. done ++ (theorem_of k ++ theorems (i + 1 + 1) (n - (i + 1)))) (sym is) ∙ sym (append_assoc done (theorem_of number) (theorems (i + 1 + 1) (n - (i + 1))))))

-- a theorem from its pieces
pub theorem_parts : (number : ℕ) (d a b s : List ℕ) → d ≡ decimal number → a ≡ numeral (number % 7) → b ≡ numeral (number % 5) → s ≡ numeral (number % 7 + number % 5)
    → concat (codes "thm t" ∷ d ∷ codes " : eq (plus " ∷ a ∷ codes " " ∷ b ∷ codes ") " ∷ s ∷ codes " := refl " ∷ s ∷ codes ".\n" ∷ []) ≡ theorem_of number
theorem_parts number d a b s is first second sum = λ i. concat (codes "thm t" ∷ is i ∷ codes " : eq (plus " ∷ first i ∷ codes " " ∷ second i ∷ codes ") " ∷ sum i ∷ codes " := refl " ∷ sum i ∷ codes ".\n" ∷ [])
