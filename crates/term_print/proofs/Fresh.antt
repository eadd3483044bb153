-- Names of binders: no symbol is so spelt, and no two binders one of which stands in the scope of the other.
use Rattle.std.proofs.Common.{List, [], ◌∷◌, ◌++◌, ℕ, zero, suc, ◌≡◌, ◌<◌, ◌≤◌, ◌+◌, ◌%◌, ◌^◌, Bool, true, false, ◌||◌, ◌==◌, length, refl, ap, sym as flip, ◌∙◌, arith, if◌then◌else◌, append_assoc, length-append}
use Rattle.std.proofs.lemmas.Bool.Decides.{nat_tests}
use Rattle.std.proofs.lemmas.Fmt.{decimal_injective, decimal_by_steps}
use Rattle.std.specs.Fmt.{decimal}
use Rattle.std.specs.Cmp.Lexicographic.{bytes_decides}
use Rattle.scope_terms.specs.Scopes.{Spelling, same_spelling}
use Rattle.term_print.specs.Named.{has, longest, unused, binder_name}

pub same_is : (x y : Spelling) → same_spelling x y ≡ true → x ≡ y
same_is x y e = (bytes_decides x y).0 e

pub same_self : (x : Spelling) → same_spelling x x ≡ true
same_self x = (bytes_decides x x).1 refl

pub true_false : true ≡ false → ⊥
true_false e = cc

pub unlike : (x y : Spelling) → (x ≡ y → ⊥) → same_spelling x y ≡ false
unlike x y differ = by (same_spelling x y) refl
  where
    by : (b : Bool) → same_spelling x y ≡ b → same_spelling x y ≡ false
    by true e = absurd (differ (same_is x y e))
    by false e = e

pub neither : (b c : Bool) → b ≡ false → c ≡ false → (b || c) ≡ false
neither b c e f = ap (λ d. d || c) e ∙ f

pub second_false : (b c : Bool) → (b || c) ≡ false → c ≡ false
second_false true c e = absurd (true_false e)
second_false false c e = e

pub first_false : (b c : Bool) → (b || c) ≡ false → b ≡ false
first_false true c e = absurd (true_false e)
first_false false c e = refl

-- no spelling is as long as one that is longer than the longest
pub long_free : (used : List Spelling) (x : Spelling) → longest used < length x → has used x ≡ false
long_free [] x l = refl
long_free (s ∷ ss) x l = neither (same_spelling x s) (has ss x) (unlike x s (λ e. longer (ap length (flip e)))) (long_free ss x (omega arith))
  where
    longer : length s ≡ length x → ⊥
    longer e = omega arith

free : (n : ℕ) (used : List Spelling) (x : Spelling) → longest used < length x + n → has used (unused n used x) ≡ false
free zero used x l = long_free used x (omega arith)
free (suc n) used x l = by (has used x) refl (free n used (x ++ 39 ∷ []) (omega (arith, length-append x (39 ∷ []))))
  where
    by : (b : Bool) → has used x ≡ b → has used (unused n used (x ++ 39 ∷ [])) ≡ false → has used (if b then unused n used (x ++ 39 ∷ []) else x) ≡ false
    by true e later = later
    by false e later = e

-- no symbol is spelt as a binder is
pub binder_unused : (used : List Spelling) (d : ℕ) → has used (binder_name used d) ≡ false
unfolding binder_name
binder_unused used d = free (longest used) used (120 ∷ decimal d) (omega arith)

-- ---- the names of two depths

abbrev pub quotes : ℕ → List ℕ
quotes zero = []
quotes (suc n) = 39 ∷ quotes n

append_nil : (xs : List ℕ) → xs ++ [] ≡ xs
append_nil [] = refl
append_nil (y ∷ ys) = ap (λ zs. y ∷ zs) (append_nil ys)

shape : (n : ℕ) (used : List Spelling) (x : Spelling) → (k : ℕ) × (unused n used x ≡ x ++ quotes k)
shape zero used x = (0, flip (append_nil x))
shape (suc n) used x = by (has used x) (shape n used (x ++ 39 ∷ []))
  where
    by : (b : Bool) → ((k : ℕ) × (unused n used (x ++ 39 ∷ []) ≡ (x ++ 39 ∷ []) ++ quotes k)) → (k : ℕ) × ((if b then unused n used (x ++ 39 ∷ []) else x) ≡ x ++ quotes k)
    by true later = (suc later.0, later.1 ∙ append_assoc x (39 ∷ []) (quotes later.0))
    by false later = (0, flip (append_nil x))

abbrev pub Digits : List ℕ → Type 0
Digits [] = Unit {0}
Digits (b ∷ bs) = (48 ≤ b) × (b < 58) × Digits bs

digits_more : (ds : List ℕ) (d : ℕ) → Digits ds → d < 10 → Digits (ds ++ ((48 + d) ∷ []))
digits_more [] d h l = (omega arith, omega arith, tt)
digits_more (b ∷ bs) d h l = (h.0, h.1, digits_more bs d h.2 l)

pub decimal_digits : (n : ℕ) → n < 2 ^ 64 → Digits (decimal n)
decimal_digits n l = decimal_by_steps (λ m ds. Digits ds) (λ m below. (omega arith, omega arith, tt)) (λ m ds above h. digits_more ds (m % 10) h (omega arith)) n l

-- what stands before the first quote
abbrev before_quote : List ℕ → List ℕ
before_quote [] = []
before_quote (b ∷ bs) = if b == 39 then [] else b ∷ before_quote bs

before_quotes : (k : ℕ) → before_quote (quotes k) ≡ []
before_quotes zero = refl
before_quotes (suc k) = refl

digits_before : (ds : List ℕ) (k : ℕ) → Digits ds → before_quote (ds ++ quotes k) ≡ ds
digits_before [] k h = before_quotes k
digits_before (b ∷ bs) k h = other (b == 39) (grind (arith, nat_tests)) ∙ ap (λ zs. b ∷ zs) (digits_before bs k h.2)
  where
    other : (c : Bool) → c ≡ false → (if c then [] else (b ∷ before_quote (bs ++ quotes k))) ≡ b ∷ before_quote (bs ++ quotes k)
    other c e = ap (λ d. if d then [] else (b ∷ before_quote (bs ++ quotes k))) e

same_tail : (x y : ℕ) (xs ys : List ℕ) → x ∷ xs ≡ y ∷ ys → xs ≡ ys
same_tail x y xs ys e = cc

pub binder_depth : (used : List Spelling) (i j : ℕ) → i < 2 ^ 64 → j < 2 ^ 64 → binder_name used i ≡ binder_name used j → i ≡ j
unfolding binder_name
binder_depth used i j il jl e =
    let (a, p) = shape (longest used) used (120 ∷ decimal i) in
    let (b, q) = shape (longest used) used (120 ∷ decimal j) in
    let both : 120 ∷ (decimal i ++ quotes a) ≡ 120 ∷ (decimal j ++ quotes b) = flip p ∙ (e ∙ q) in
    let rest : decimal i ++ quotes a ≡ decimal j ++ quotes b = same_tail 120 120 (decimal i ++ quotes a) (decimal j ++ quotes b) both in
    decimal_injective i j il jl (flip (digits_before (decimal i) a (decimal_digits i il)) ∙ (ap before_quote rest ∙ digits_before (decimal j) b (decimal_digits j jl)))

-- `x`, the depth and some quotes
pub binder_shape : (used : List Spelling) (d : ℕ) → (k : ℕ) × (binder_name used d ≡ 120 ∷ (decimal d ++ quotes k))
unfolding binder_name
binder_shape used d = shape (longest used) used (120 ∷ decimal d)

-- a spelling that is used isn't the name of a binder
pub apart : (used : List Spelling) (s x : Spelling) → has used s ≡ true → has used x ≡ false → same_spelling s x ≡ false
apart [] s x e f = absurd (true_false (flip e))
apart (u ∷ us) s x e f = by (same_spelling s u) refl (λ h. apart us s x h (second_false (same_spelling x u) (has us x) f))
  where
    by : (b : Bool) → same_spelling s u ≡ b → (has us s ≡ true → same_spelling s x ≡ false) → same_spelling s x ≡ false
    by true is later = unlike s x (λ same. true_false (flip (same_self x) ∙ (ap (same_spelling x) (flip same ∙ same_is s u is) ∙ first_false (same_spelling x u) (has us x) f)))
    by false is later = later (flip (ap (λ b. b || has us s) is) ∙ e)
