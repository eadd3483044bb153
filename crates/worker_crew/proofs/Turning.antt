-- Passes that are worked with one after the other, each taken at the front and put at the back.
use Rattle.std.proofs.Common.{◌≡◌, ℕ, zero, suc, ◌<◌, ◌≤◌, List, [], ◌∷◌, ◌++◌, length, get_or, take, drop, sym, ap, ◌∙◌, subst, arith, All}
use Rattle.std.specs.Prelude.{remove}
use Rattle.std.proofs.lemmas.List.{take-append-le, drop-append-le}
use Rattle.std.proofs.lemmas.List.Elements.{All-nil}
use Rattle.std.proofs.Math.Seq.{take-length, drop-length}
use Rattle.task_board.proofs.Alls.{all_put, tail_all}

front : {A : Type 0} (xs : List A) (x : A) → 0 < length xs → x ≡ get_or xs 0 x → xs ≡ x ∷ remove xs 0
front [] x h e = absurd (omega arith)
front (y ∷ xs) x h e = λ i. sym e i ∷ xs

-- Of the first m + 1 the first one was taken, and put behind the last ones as something else
pub turned : {A : Type 0} (W O : A → Type 0) (xs ys : List A) (x y : A) (m k : ℕ) → k ≡ suc m → k ≤ length xs → x ≡ get_or xs 0 x → ys ≡ remove xs 0 ++ y ∷ [] → All W (take k xs) → All O (drop k xs) → O y
    → All W (take m ys) × All O (drop m ys)
turned {A = A} W O xs ys x y m k is le e put w o oy = let split = front xs x (omega arith) e in let rest = remove xs 0 in
    let len = ap length split in let lm : m ≤ length rest = omega (arith, len) in
    let w' : All W (x ∷ take m rest) = subst (λ (z : List A × ℕ). All W (take z.1 z.0)) (λ i. (split i, is i)) w in
    let o' : All O (drop m rest) = subst (λ (z : List A × ℕ). All O (drop z.1 z.0)) (λ i. (split i, is i)) o in (
      subst (All W) (sym (ap (take m) put ∙ take-append-le m rest (y ∷ []) lm)) (tail_all W x (take m rest) w'),
      all_put O (drop m rest) (drop m ys) y (ap (drop m) put ∙ drop-append-le m rest (y ∷ []) lm) o' oy,
    )

pub first_waits : {A : Type 0} (W : A → Type 0) (xs : List A) (x : A) (m k : ℕ) → k ≡ suc m → k ≤ length xs → x ≡ get_or xs 0 x → All W (take k xs) → W x
first_waits {A = A} W xs x m k is le e w = let split = front xs x (omega arith) e in
    (subst (λ (z : List A × ℕ). All W (take z.1 z.0)) (λ i. (split i, is i)) w) zero x (omega arith)

pub begun : {A : Type 0} (W O : A → Type 0) (xs : List A) (k : ℕ) → k ≡ length xs → All W xs → All W (take k xs) × All O (drop k xs)
begun W O xs k is w = (subst (All W) (sym (ap (λ n. take n xs) is ∙ take-length xs)) w, subst (All O) (sym (ap (λ n. drop n xs) is ∙ drop-length xs)) (All-nil O))

pub ended : {A : Type 0} (O : A → Type 0) (xs : List A) (k : ℕ) → k ≡ 0 → All O (drop k xs) → All O xs
ended O xs k is o = subst (λ n. All O (drop n xs)) is o
