-- What is settled stands however the bytes go on.
use Rattle.std.proofs.Common.{◌≡◌, ℕ, suc, ◌+◌, ◌-◌, Bool, true, false, nat_le, List, [], ◌∷◌, ◌++◌, length, ap, arith, length-append}
use Rattle.dk_model.specs.declared.code.Code.TheVariants.{E01}
use Rattle.dk_lexer.specs.declared.token.Sign.TheVariants as sign
use Rattle.dk_lexer.specs.declared.class.Class.{Class}
use Rattle.dk_lexer.specs.declared.class.Class.TheVariants as class
use Rattle.dk_lexer.specs.Classes.{class_of}
use Rattle.dk_lexer.specs.Spelling.{Spelling, blank, wrong, Pair, opens, closes, apart, pair, comment, sign_spelled, colon_before, behind_colon, equals_before, behind_equals, long_before, behind_two_minus, minus_before, behind_minus, bracket_before, behind_bracket}
use Rattle.one_lexer.specs.Settled.{is_settled, with_more}

-- that this spelling, of bytes with more behind them, goes on from that one
abbrev pub GoesOnFrom : Spelling → ℕ → Spelling → Type 0
GoesOnFrom new n old = is_settled old ≡ true → new ≡ with_more n old

pub more_length : (bs more : List ℕ) → suc (length (bs ++ more)) ≡ suc (length bs) + length more
more_length bs more = let e = length-append bs more in omega arith

-- ---- signs

colon_goes : (c : Class) (left n m : ℕ) → m ≡ left + n → colon_before c m ≡ with_more n (colon_before c left)
colon_goes class.Equals left n m e = ap (sign_spelled sign.Defined) e
colon_goes _ left n m e = let f : suc m ≡ suc left + n = omega arith in ap (sign_spelled sign.Colon) f

pub colon_stays : (bs more : List ℕ) → GoesOnFrom (behind_colon (bs ++ more)) (length more) (behind_colon bs)
colon_stays [] more h = cc
colon_stays (c ∷ cs) more h = colon_goes (class_of c) (length cs) (length more) (length (cs ++ more)) (length-append cs more)

equals_goes : (c : Class) (left n m : ℕ) → m ≡ left + n → equals_before c m ≡ with_more n (equals_before c left)
equals_goes class.Greater left n m e = ap (sign_spelled sign.DoubleArrow) e
equals_goes class.Equals left n m e = ap (sign_spelled sign.Equal) e
equals_goes _ left n m e = let f : suc m ≡ suc left + n = omega arith in ap (wrong E01) f

pub equals_stays : (bs more : List ℕ) → GoesOnFrom (behind_equals (bs ++ more)) (length more) (behind_equals bs)
equals_stays [] more h = cc
equals_stays (c ∷ cs) more h = equals_goes (class_of c) (length cs) (length more) (length (cs ++ more)) (length-append cs more)

long_goes : (c : Class) (left n m : ℕ) → m ≡ left + n → long_before c m ≡ with_more n (long_before c left)
long_goes class.Greater left n m e = ap (sign_spelled sign.LongArrow) e
long_goes _ left n m e = let f : suc m ≡ suc left + n = omega arith in ap (wrong E01) f

two_minus_stays : (bs more : List ℕ) → GoesOnFrom (behind_two_minus (bs ++ more)) (length more) (behind_two_minus bs)
two_minus_stays [] more h = cc
two_minus_stays (c ∷ cs) more h = long_goes (class_of c) (length cs) (length more) (length (cs ++ more)) (length-append cs more)

minus_goes : (c : Class) (cs more : List ℕ) → GoesOnFrom (minus_before c (cs ++ more)) (length more) (minus_before c cs)
minus_goes class.Greater cs more h = ap (sign_spelled sign.Arrow) (length-append cs more)
minus_goes class.Minus cs more h = two_minus_stays cs more h
minus_goes _ cs more h = ap (wrong E01) (more_length cs more)

pub minus_stays : (bs more : List ℕ) → GoesOnFrom (behind_minus (bs ++ more)) (length more) (behind_minus bs)
minus_stays [] more h = cc
minus_stays (c ∷ cs) more h = minus_goes (class_of c) cs more h

-- ---- comments

comment_by : (p : Pair) (t : Bool) (depth : ℕ) (c : Class) (bs more : List ℕ)
    → ((d : ℕ) (last : Class) → GoesOnFrom (comment d last (bs ++ more)) (length more) (comment d last bs))
    → GoesOnFrom
    (elim p [
      | opens ↦ comment (depth + 1) class.Other (bs ++ more)
      | closes ↦ elim t [ true ↦ blank (length (bs ++ more)) | false ↦ comment (depth - 1) class.Other (bs ++ more) ]
      | apart ↦ comment depth c (bs ++ more)
    ])
    (length more)
    (elim p [
      | opens ↦ comment (depth + 1) class.Other bs
      | closes ↦ elim t [ true ↦ blank (length bs) | false ↦ comment (depth - 1) class.Other bs ]
      | apart ↦ comment depth c bs
    ])
comment_by opens t depth c bs more ih h = ih (depth + 1) class.Other h
comment_by closes true depth c bs more ih h = ap blank (length-append bs more)
comment_by closes false depth c bs more ih h = ih (depth - 1) class.Other h
comment_by apart t depth c bs more ih h = ih depth c h

pub comment_stays : (depth : ℕ) (last : Class) (bs more : List ℕ) → GoesOnFrom (comment depth last (bs ++ more)) (length more) (comment depth last bs)
comment_stays depth last [] more h = cc
comment_stays depth last (b ∷ bs) more h = comment_by (pair last (class_of b)) (nat_le depth 1) depth (class_of b) bs more (λ d l. comment_stays d l bs more) h

bracket_goes : (c : Class) (cs more : List ℕ) → GoesOnFrom (bracket_before c (cs ++ more)) (length more) (bracket_before c cs)
bracket_goes class.Semicolon cs more h = comment_stays 1 class.Other cs more h
bracket_goes _ cs more h = ap (sign_spelled sign.OpenBracket) (more_length cs more)

pub bracket_stays : (bs more : List ℕ) → GoesOnFrom (behind_bracket (bs ++ more)) (length more) (behind_bracket bs)
bracket_stays [] more h = cc
bracket_stays (c ∷ cs) more h = bracket_goes (class_of c) cs more h
