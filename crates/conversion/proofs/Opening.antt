-- The arguments of a term as a stack.
use Rattle.std.proofs.Common.{List, [], ◌∷◌, ◌++◌, ◌≡◌, ◌-◌, ◌≤◌, ℕ, zero, suc, refl, ap, ◌∙◌, sym as flip, arith, length, take, drop}
use Rattle.std.proofs.lemmas.List.{drop-append-le}
use Rattle.dk_model.specs.Trees.{Tree, apply}
use Rattle.dk_model.specs.Spines.{applied}
use Rattle.conversion.specs.Machine.{wound, from_top}
use Rattle.rule_match.proofs.Opening.{length_from_top}

drop_past : {A : Type 0} (n : ℕ) (xs : List A) → length xs ≤ n → drop n xs ≡ []
drop_past zero [] h = refl
drop_past zero (x ∷ xs) h = absurd (omega arith)
drop_past (suc n) [] h = refl
drop_past (suc n) (x ∷ xs) h = drop_past n xs (omega arith)

-- `n` items popped leave `j`
drop_from_top : {A : Type 0} (xs : List A) (n j : ℕ) → j ≡ length xs - n → drop n (from_top xs) ≡ from_top (take j xs)
drop_from_top [] n zero e = drop_past n [] (omega arith)
drop_from_top [] n (suc j) e = absurd (omega arith)
drop_from_top (x ∷ xs) n zero e = drop_past n (from_top (x ∷ xs)) (let h : length (from_top (x ∷ xs)) ≡ length (x ∷ xs) = length_from_top (x ∷ xs) in omega (arith, h))
drop_from_top (x ∷ xs) n (suc j) e =
    drop-append-le n (from_top xs) (x ∷ []) (let h : length (from_top xs) ≡ length xs = length_from_top xs in omega (arith, h))
    ∙ ap (λ l. l ++ (x ∷ [])) (drop_from_top xs n j (omega arith))

applied_more : (t : Tree) (xs : List Tree) (a : Tree) → applied t (xs ++ (a ∷ [])) ≡ apply (applied t xs) a
applied_more t [] a = refl
applied_more t (x ∷ xs) a = applied_more (apply t x) xs a

pub applied_from_top : (t : Tree) (xs : List Tree) → applied t (from_top xs) ≡ wound t xs
applied_from_top t [] = refl
applied_from_top t (x ∷ xs) = applied_more t (from_top xs) x ∙ ap (λ (u : Tree). apply u x) (applied_from_top t xs)

pub put_before : (t : Tree) (xs : List Tree) (n : ℕ) → wound t (take (length xs - n) xs) ≡ applied t (drop n (from_top xs))
put_before t xs n = flip (ap (applied t) (drop_from_top xs n (length xs - n) refl) ∙ applied_from_top t (take (length xs - n) xs))
