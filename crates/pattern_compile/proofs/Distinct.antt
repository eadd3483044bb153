-- Variables are distinct where none stands behind an equal one.
use Rattle.std.proofs.Common.{◌≡◌, ◌∙◌, ap, sym, refl, ℕ, ◌+◌, ◌<◌, Bool, true, false, List, [], ◌∷◌, ◌++◌, length, get_or, take, drop, eqb, eqb-true, eq-eqb}
use Rattle.std.proofs.lemmas.List.{take_more, take-append-drop}
use Rattle.std.specs.List.{list_any}
use Rattle.std.specs.Prelude.{◌&&◌, ◌||◌, not}
use Rattle.dk_model.specs.Captures.{is_in}
use Rattle.dk_model.specs.Shapes.{are_distinct}

-- ---- bits

or_true : (b : Bool) → (b || true) ≡ true
or_true true = refl
or_true false = refl

or_false : (b : Bool) → (b || false) ≡ b
or_false true = refl
or_false false = refl

and_false : (b : Bool) → (b && false) ≡ false
and_false true = refl
and_false false = refl

or_step : (a b c : Bool) → (a || (b || c)) ≡ ((a || b) || c)
or_step true b c = refl
or_step false b c = refl

distinct_step : (a e d b : Bool) → (not (a || e) && (d && not b)) ≡ ((not a && d) && not (e || b))
distinct_step true e d b = refl
distinct_step false true d b = by d
  where
    by : (d : Bool) → false ≡ (d && false)
    by true = refl
    by false = refl
distinct_step false false d b = refl

-- ---- one among others

clash : (b : Bool) → b ≡ true → b ≡ false → ⊥
clash b e h = cc

eqb-sym : (a b : ℕ) → eqb a b ≡ eqb b a
eqb-sym a b = by (eqb a b) (eqb b a) refl refl
  where
    by : (s t : Bool) → eqb a b ≡ s → eqb b a ≡ t → s ≡ t
    by true true e h = refl
    by true false e h = absurd (clash (eqb b a) (eq-eqb b a (sym (eqb-true a b e))) h)
    by false true e h = absurd (clash (eqb a b) (eq-eqb a b (sym (eqb-true b a h))) e)
    by false false e h = refl

pub any_is : (x : ℕ) (xs : List ℕ) → list_any (λ y. eqb y x) xs ≡ is_in x xs
any_is x [] = refl
any_is x (y ∷ xs) = ap (λ (b : Bool). b || list_any (λ z. eqb z x) xs) (eqb-sym y x) ∙ ap (λ (b : Bool). eqb x y || b) (any_is x xs)

is_in_both : (x : ℕ) (xs ys : List ℕ) → is_in x (xs ++ ys) ≡ (is_in x xs || is_in x ys)
is_in_both x [] ys = refl
is_in_both x (z ∷ xs) ys = ap (λ (b : Bool). eqb x z || b) (is_in_both x xs ys) ∙ or_step (eqb x z) (is_in x xs) (is_in x ys)

-- ---- distinct up to a place

distinct_end : (x : ℕ) (xs : List ℕ) → are_distinct (xs ++ (x ∷ [])) ≡ (are_distinct xs && not (is_in x xs))
distinct_end x [] = refl
distinct_end x (z ∷ xs) =
    ap (λ (b : Bool). not b && are_distinct (xs ++ (x ∷ []))) (is_in_both z xs (x ∷ []) ∙ ap (λ (b : Bool). is_in z xs || b) (or_false (eqb z x) ∙ eqb-sym z x))
    ∙ ap (λ (b : Bool). not (is_in z xs || eqb x z) && b) (distinct_end x xs)
    ∙ distinct_step (is_in z xs) (eqb x z) (are_distinct xs) (is_in x xs)

front_step : (a m d w : Bool) → (not a && d) ≡ false → (d ≡ false → w ≡ false) → (not (a || m) && w) ≡ false
front_step true m d w e h = refl
front_step false m d w e h = ap (λ (b : Bool). not m && b) (h e) ∙ and_false (not m)

distinct_front : (xs ys : List ℕ) → are_distinct xs ≡ false → are_distinct (xs ++ ys) ≡ false
distinct_front [] ys e = cc
distinct_front (z ∷ xs) ys e =
    ap (λ (b : Bool). not b && are_distinct (xs ++ ys)) (is_in_both z xs ys)
    ∙ front_step (is_in z xs) (is_in z ys) (are_distinct xs) (are_distinct (xs ++ ys)) e (λ h. distinct_front xs ys h)

module _ (xs : List ℕ) (i : ℕ) (lt : i < length xs) where
  one_more : (b : Bool) → is_in (get_or xs i 0) (take i xs) ≡ b → are_distinct (take (i + 1) xs) ≡ (are_distinct (take i xs) && not b)
  one_more b e =
      ap are_distinct (take_more xs i 0 lt) ∙ distinct_end (get_or xs i 0) (take i xs)
      ∙ ap (λ (c : Bool). are_distinct (take i xs) && not c) e

  among : (b : Bool) → b ≡ list_any (λ y. eqb y (get_or xs i 0)) (take i xs) → is_in (get_or xs i 0) (take i xs) ≡ b
  among b e = sym (e ∙ any_is (get_or xs i 0) (take i xs))

  pub distinct_so_far : are_distinct (take i xs) ≡ true → false ≡ list_any (λ y. eqb y (get_or xs i 0)) (take i xs) → are_distinct (take (i + 1) xs) ≡ true
  distinct_so_far d e = one_more false (among false e) ∙ ap (λ (c : Bool). c && true) d

  pub distinct_lost : true ≡ list_any (λ y. eqb y (get_or xs i 0)) (take i xs) → false ≡ are_distinct xs
  distinct_lost e =
      sym (sym (ap are_distinct (take-append-drop (i + 1) xs))
      ∙ distinct_front (take (i + 1) xs) (drop (i + 1) xs) (one_more true (among true e) ∙ and_false (are_distinct (take i xs))))
