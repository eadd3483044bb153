-- A number is read from the front of a text just where it stands there.
use Rattle.std.specs.Prelude.{nat_lt, eqb, not, ◌&&◌, Bool, true, false, if◌then◌else◌, decimal, length, get_or, ◌*◌, ◌^◌}
use Rattle.std.proofs.Common.{List, [], ◌∷◌, ◌++◌, ℕ, zero, suc, ◌+◌, ◌-◌, ◌<◌, ◌≤◌, ◌≡◌, Option, Some, None, refl, ap, ◌∙◌, sym as flip, subst as along, arith}
use Rattle.std.proofs.lemmas.Bool.{lt-ltb, le-ltb, ltb-true, ltb-false, eqb-true, eqb-false, ne_eqb}
use Rattle.std.proofs.lemmas.Fmt.{decimal_is_IsNumeral, decimal_digit, first_decimal, decimal-digits_value, decimal_nonempty}
use Rattle.std.proofs.lemmas.Str.Parse.{numerals_by_value, tells_digits, digit_from_value}
use Rattle.std.proofs.lemmas.Str.{digit_value_digit}
use Rattle.std.specs.Str.Parse.{AllDigits, digits_value_after, digits_value}
use Rattle.std.specs.Char.{digit_value}
use Rattle.certificate_lines.specs.Reading.{is_digit, begins_with_digit, read_digits, read_number}

-- no digit stands at the front
abbrev pub IsEnd : List ℕ → Type 0
IsEnd xs = begins_with_digit xs ≡ false

digit_if : (c : ℕ) (b d : Bool) → nat_lt c 48 ≡ b → nat_lt c 58 ≡ d → (not b && d) ≡ true → (48 ≤ c) × (c < 58)
digit_if c false true p q e = (ltb-false c 48 p, ltb-true c 58 q)
digit_if c false false p q e = cc
digit_if c true d p q e = cc

pub digit_is : (c : ℕ) → is_digit c ≡ true → (48 ≤ c) × (c < 58)
digit_is c e = digit_if c (nat_lt c 48) (nat_lt c 58) refl refl e

is_one : (c : ℕ) → 48 ≤ c → c < 58 → is_digit c ≡ true
is_one c l m = rw (le-ltb c 48 l, lt-ltb c 58 m) refl

-- a digit as std has it
pub one_digit : (c : ℕ) → digit_value c < 10 → (is_digit c ≡ true) × (digit_value c ≡ c - 48)
one_digit c h = let r = digit_from_value c h in let v : digit_value c + 48 ≡ c = digit_value_digit c r in
    (is_one c (omega (arith, r)) (omega (arith, r)), omega (arith, v))

digit_below : (c : ℕ) → is_digit c ≡ true → (digit_value c < 10) × (digit_value c ≡ c - 48)
digit_below c e = let r : (48 ≤ c) × (c < 58) = digit_is c e in let v : digit_value c + 48 ≡ c = digit_value_digit c (r.0, omega (arith, r)) in
    (omega (arith, v, r), omega (arith, v))

grows : (n : ℕ) (ds : List ℕ) → n ≤ digits_value_after 10 n ds
grows n [] = omega arith
grows n (c ∷ cs) = omega (arith, grows (n * 10 + digit_value c) cs)

-- ---- digits

end_read : (n : ℕ) (xs : List ℕ) → IsEnd xs → read_digits n xs ≡ Some (n, xs)
end_read n [] e = refl
end_read n (c ∷ cs) e = rw e refl

pub digits_read : (ds xs : List ℕ) (n : ℕ) → AllDigits 10 ds → IsEnd xs → digits_value_after 10 n ds < 2 ^ 64 → read_digits n (ds ++ xs) ≡ Some (digits_value_after 10 n ds, xs)
digits_read [] xs n d e small = end_read n xs e
digits_read (c ∷ ds) xs n d e small =
    let o : (is_digit c ≡ true) × (digit_value c ≡ c - 48) = one_digit c d.0 in
    let m : n * 10 + digit_value c ≡ n * 10 + (c - 48) = ap (λ x. n * 10 + x) o.1 in
    let l : n * 10 + (c - 48) < 2 ^ 64 = omega (arith, m, grows (n * 10 + digit_value c) ds) in
    rw (o.0, lt-ltb (n * 10 + (c - 48)) (2 ^ 64) l) (along (λ x. read_digits x (ds ++ xs) ≡ Some (digits_value_after 10 (n * 10 + digit_value c) ds, xs)) m
    (digits_read ds xs (n * 10 + digit_value c) d.1 e small))

pub record AreDigits (n : ℕ) (bs : List ℕ) (m : ℕ) (xs : List ℕ) : Type 0 where
  pub digits : List ℕ
  pub are : AllDigits 10 digits
  pub all : bs ≡ digits ++ xs
  pub value : m ≡ digits_value_after 10 n digits
  pub short : m < 2 ^ 64
  pub ends : IsEnd xs

some_pair : (n m : ℕ) (xs ys : List ℕ) → ◌≡◌ {A = Option (ℕ × List ℕ)} (Some (n, xs)) (Some (m, ys)) → (n ≡ m) × (xs ≡ ys)
some_pair n m xs ys e = let q : ◌≡◌ {A = ℕ × List ℕ} (n, xs) (m, ys) = cc in (ap (λ (p : ℕ × List ℕ). p.0) q, ap (λ (p : ℕ × List ℕ). p.1) q)

none_read : (n m : ℕ) (bs xs : List ℕ) → n < 2 ^ 64 → IsEnd bs → ◌≡◌ {A = Option (ℕ × List ℕ)} (Some (n, bs)) (Some (m, xs)) → AreDigits n bs m xs
none_read n m bs xs s i e = let q : (n ≡ m) × (bs ≡ xs) = some_pair n m bs xs e in
    record { digits = []; are = tt; all = q.1; value = flip q.0; short = along (λ x. x < 2 ^ 64) q.0 s; ends = along IsEnd q.1 i }

more_stand : (c : ℕ) (cs : List ℕ) (n m : ℕ) (xs : List ℕ) → ((k : ℕ) → k < 2 ^ 64 → read_digits k cs ≡ Some (m, xs) → AreDigits k cs m xs) → (b : Bool) → nat_lt (n * 10 + (c - 48)) (2 ^ 64) ≡ b
    → is_digit c ≡ true → (if b then read_digits (n * 10 + (c - 48)) cs else None) ≡ Some (m, xs) → AreDigits n (c ∷ cs) m xs
more_stand c cs n m xs ih false q d e = cc
more_stand c cs n m xs ih true q d e =
    let h : AreDigits (n * 10 + (c - 48)) cs m xs = ih (n * 10 + (c - 48)) (ltb-true (n * 10 + (c - 48)) (2 ^ 64) q) e in
    let v : (digit_value c < 10) × (digit_value c ≡ c - 48) = digit_below c d in
    record {
      digits = c ∷ h.digits;
      are = (v.0, h.are);
      all = ap (λ ys. c ∷ ys) h.all;
      value = h.value ∙ ap (λ x. digits_value_after 10 (n * 10 + x) h.digits) (flip v.1);
      short = h.short;
      ends = h.ends;
    }

digit_stands : (c : ℕ) (cs : List ℕ) (n m : ℕ) (xs : List ℕ) → ((k : ℕ) → k < 2 ^ 64 → read_digits k cs ≡ Some (m, xs) → AreDigits k cs m xs) → (b : Bool) → is_digit c ≡ b → n < 2 ^ 64
    → (if b then (if nat_lt (n * 10 + (c - 48)) (2 ^ 64) then read_digits (n * 10 + (c - 48)) cs else None) else Some (n, c ∷ cs)) ≡ Some (m, xs) → AreDigits n (c ∷ cs) m xs
digit_stands c cs n m xs ih false q s e = none_read n m (c ∷ cs) xs s q e
digit_stands c cs n m xs ih true q s e = more_stand c cs n m xs ih (nat_lt (n * 10 + (c - 48)) (2 ^ 64)) refl q e

digits_stand : (bs : List ℕ) (n m : ℕ) (xs : List ℕ) → n < 2 ^ 64 → read_digits n bs ≡ Some (m, xs) → AreDigits n bs m xs
digits_stand [] n m xs s e = none_read n m [] xs s refl e
digits_stand (c ∷ cs) n m xs s e = digit_stands c cs n m xs (λ k s' e'. digits_stand cs k m xs s' e') (is_digit c) refl s e

-- ---- numbers

pub record StandsFirst (bs : List ℕ) (n : ℕ) (xs : List ℕ) : Type 0 where
  pub all : bs ≡ decimal n ++ xs
  pub short : n < 2 ^ 64
  pub ends : IsEnd xs

abbrev zero_before : List ℕ → Option (ℕ × List ℕ)
zero_before cs = Some (0, cs)

read_if_zero : (n : ℕ) (cs xs : List ℕ) (b : Bool) → begins_with_digit cs ≡ b → (if b then None else zero_before cs) ≡ Some (n, xs) → StandsFirst (48 ∷ cs) n xs
read_if_zero n cs xs true q e = cc
read_if_zero n cs xs false q e = let p : (0 ≡ n) × (cs ≡ xs) = some_pair 0 n cs xs e in record {
  all = along (λ m. 48 ∷ cs ≡ decimal m ++ xs) p.0 (along (λ ys. 48 ∷ cs ≡ decimal 0 ++ ys) p.1 (ap (λ ys. ys ++ cs) (flip (decimal_digit 0 (omega arith)))));
  short = along (λ m. m < 2 ^ 64) p.0 (omega arith);
  ends = along IsEnd p.1 q;
}

first_of : (c : ℕ) (cs ds xs : List ℕ) → c ∷ cs ≡ ds ++ xs → 0 < length ds → get_or ds 0 0 ≡ c
first_of c cs [] xs e l = absurd (omega arith)
first_of c cs (d ∷ ds) xs e l = let q : c ≡ d = cc in flip q

some_digits : (c : ℕ) (cs ds xs : List ℕ) → c ∷ cs ≡ ds ++ xs → is_digit c ≡ true → IsEnd xs → 0 < length ds
some_digits c cs [] [] e d i = cc
some_digits c cs [] (x ∷ xs) e d i = let q : c ≡ x = cc in let r : true ≡ false = flip d ∙ ap is_digit q ∙ i in cc
some_digits c cs (y ∷ ds) xs e d i = omega arith

digits_first : (c : ℕ) (cs : List ℕ) (n : ℕ) (xs : List ℕ) → (c ≡ 48 → ⊥) → is_digit c ≡ true → read_digits 0 (c ∷ cs) ≡ Some (n, xs) → StandsFirst (c ∷ cs) n xs
digits_first c cs n xs z d e =
    let h : AreDigits 0 (c ∷ cs) n xs = digits_stand (c ∷ cs) 0 n xs (omega arith) e in
    let l : 0 < length h.digits = some_digits c cs h.digits xs h.all d h.ends in
    let f : get_or h.digits 0 0 ≡ c = first_of c cs h.digits xs h.all l in
    let v : decimal (digits_value 10 h.digits) ≡ h.digits = decimal-digits_value (numerals_by_value (AllDigits 10) tells_digits) h.digits h.are l (λ q. absurd (z (flip f ∙ q))) (along (λ x. x < 2 ^ 64) h.value h.short) in
    record { all = h.all ∙ ap (λ ys. ys ++ xs) (flip v ∙ ap decimal (flip h.value)); short = h.short; ends = h.ends }

read_if : (c : ℕ) (cs : List ℕ) (n : ℕ) (xs : List ℕ) (b : Bool) → is_digit c ≡ b → (c ≡ 48 → ⊥) → (if b then read_digits 0 (c ∷ cs) else None) ≡ Some (n, xs) → StandsFirst (c ∷ cs) n xs
read_if c cs n xs true q z e = digits_first c cs n xs z q e
read_if c cs n xs false q z e = cc

read_by : (c : ℕ) (cs : List ℕ) (n : ℕ) (xs : List ℕ) (b : Bool) → eqb c 48 ≡ b
    → (if b then (if begins_with_digit cs then None else zero_before cs) else (if is_digit c then read_digits 0 (c ∷ cs) else None)) ≡ Some (n, xs) → StandsFirst (c ∷ cs) n xs
read_by c cs n xs true q e = along (λ x. StandsFirst (x ∷ cs) n xs) (flip (eqb-true c 48 q)) (read_if_zero n cs xs (begins_with_digit cs) refl e)
read_by c cs n xs false q e = read_if c cs n xs (is_digit c) refl (eqb-false c 48 q) e

-- what is read stands there
pub number_stands : (bs : List ℕ) (n : ℕ) (xs : List ℕ) → read_number bs ≡ Some (n, xs) → StandsFirst bs n xs
number_stands [] n xs e = cc
number_stands (c ∷ cs) n xs e = read_by c cs n xs (eqb c 48) refl e

chosen : (b d : Bool) (x y : Option (ℕ × List ℕ)) → b ≡ false → d ≡ true → (if b then x else (if d then y else None)) ≡ y
chosen false true x y p q = refl
chosen false false x y p q = cc
chosen true d x y p q = cc

positive_read : (n : ℕ) (ds xs : List ℕ) → ds ≡ decimal n → 0 < n → n < 2 ^ 64 → IsEnd xs → read_number (ds ++ xs) ≡ Some (n, xs)
positive_read n [] xs q p s i = absurd (let l : 0 < length (decimal n) = decimal_nonempty n s in let k : 0 ≡ length (decimal n) = ap length q in omega arith)
positive_read n (c ∷ ds) xs q p s i =
    let f : 48 < get_or (decimal n) 0 0 = first_decimal n p s in
    let g : c ≡ get_or (decimal n) 0 0 = ap (λ ys. get_or ys 0 0) q in
    let d : AllDigits 10 (c ∷ ds) = along (AllDigits 10) (flip q) (decimal_is_IsNumeral n s).0.1 in
    let v : digits_value 10 (c ∷ ds) ≡ n = ap (digits_value 10) q ∙ (decimal_is_IsNumeral n s).1 in
    let r : read_digits 0 ((c ∷ ds) ++ xs) ≡ Some (digits_value 10 (c ∷ ds), xs) = digits_read (c ∷ ds) xs 0 d i (along (λ x. x < 2 ^ 64) (flip v) s) in
    chosen (eqb c 48) (is_digit c) (if begins_with_digit (ds ++ xs) then None else zero_before (ds ++ xs)) (read_digits 0 ((c ∷ ds) ++ xs)) (ne_eqb c 48 (λ e. omega (arith, e, f, g))) (one_digit c d.0).0
    ∙ (r ∙ ap (λ x. Some (x, xs)) v)

-- what stands there is read
pub number_read : (n : ℕ) (xs : List ℕ) → n < 2 ^ 64 → IsEnd xs → read_number (decimal n ++ xs) ≡ Some (n, xs)
number_read zero xs s i = ap (λ ds. read_number (ds ++ xs)) (decimal_digit 0 (omega arith)) ∙ rw i refl
number_read (suc n) xs s i = positive_read (suc n) (decimal (suc n)) xs refl (omega arith) s i
