-- Signs are on one line.
use Rattle.std.proofs.Common.{◌≡◌, ◌<◌, ℕ, zero, suc, ◌+◌, ◌-◌, Bool, true, false, ◌==◌, List, [], ◌∷◌, ◌++◌, length, take, codes, refl, sym, ap, subst, ◌∙◌, arith, length-append}
use Rattle.std.proofs.lemmas.Bool.{eqb-true}
use Rattle.std.specs.Prelude.{Some, slice_get}
use Rattle.dk_lexer.specs.declared.class.Class.{Class}
use Rattle.dk_lexer.specs.declared.class.Class.TheVariants as class
use Rattle.dk_lexer.specs.declared.token.TokenKind.TheVariants as kind
use Rattle.dk_lexer.specs.declared.token.Sign.{Sign}
use Rattle.dk_lexer.specs.declared.token.Sign.TheVariants as sign
use Rattle.dk_lexer.specs.declared.place.Place.{Place}
use Rattle.dk_lexer.specs.Classes.{begins_name, class_of}
use Rattle.dk_lexer.specs.Spelling.{Spelling, token, Quoted, closed, faulty, open_ended, behind_bracket, behind_colon, behind_equals, behind_letters, behind_minus, behind_open, behind_two_minus, bracket_before, colon_before, comment, equals_before, letters_of, long_before, minus_before, open_before, quoted, quoted_spelled, sign_spelled, spelled_by, word_spelled}
use Rattle.dk_lexer.specs.Tokens.{behind}
use Rattle.one_lexer.specs.Places.{place_behind}
use Rattle.one_lexer.specs.Quick.{IsSpelt, along}
use Rattle.one_lexer.specs.Views.{spelled_front}
use Rattle.one_lexer.proofs.Leaves.{IsBlank, comment_blank}
use Rattle.one_lexer.proofs.Slices.{take_before}

-- ---- bytes without a newline

abbrev pub HasNoNewline : List ℕ → Type 0
HasNoNewline [] = Unit {0}
HasNoNewline (b ∷ bs) = ((b == 10) ≡ false) × HasNoNewline bs

behind_same : (here : Place) (b : ℕ) → (b == 10) ≡ false → behind here b ≡ along here 1
unfolding behind
behind_same here b e = rw e refl

along_more : (here : Place) (n : ℕ) → along (along here 1) n ≡ along here (suc n)
along_more here n = let o : (here.offset + 1) + n ≡ here.offset + suc n = omega arith in ap (λ (k : ℕ). let q : Place = record { offset = k; line = here.line } in q) o

pub along_all : (here : Place) (bs : List ℕ) → HasNoNewline bs → place_behind here bs ≡ along here (length bs)
along_all here [] h = let o : here.offset ≡ here.offset + 0 = omega arith in ap (λ (k : ℕ). let q : Place = record { offset = k; line = here.line } in q) o
along_all here (b ∷ bs) h =
    ap (λ (p : Place). place_behind p bs) (behind_same here b h.0) ∙ along_all (along here 1) bs h.1 ∙ along_more here (length bs)

-- the bytes before the last so many are on one line
abbrev pub OnOneLine : List ℕ → ℕ → Type 0
OnOneLine bytes left = (here : Place) → place_behind here (take (length bytes - left) bytes) ≡ along here (length bytes - left)

pub on_line : (bytes front rest : List ℕ) (left : ℕ) → bytes ≡ front ++ rest → left ≡ length rest → ((here : Place) → place_behind here front ≡ along here (length front)) → OnOneLine bytes left
on_line bytes front rest left is left_is h here =
    let size : length bytes ≡ length front + length rest = ap length is ∙ length-append front rest in
    let n : length bytes - left ≡ length front = omega (arith, size, left_is) in
    ap (place_behind here) (take_before bytes front rest left is left_is) ∙ h here ∙ ap (along here) (sym n)

-- ---- no newline is part of a sign

abbrev is_newline : Class → Bool
is_newline class.Newline = true
is_newline _ = false

ten : is_newline (class_of 10) ≡ true
unfolding class_of
ten = refl

other_by : (t : Bool) (b : ℕ) (k : Class) → (b == 10) ≡ t → class_of b ≡ k → is_newline k ≡ false → t ≡ false
other_by false b k e is other = refl
other_by true b k e is other =
    let yes : is_newline k ≡ true = ap is_newline (sym is) ∙ ap (λ n. is_newline (class_of n)) (eqb-true b 10 e) ∙ ten in
    absurd cc

other : (b : ℕ) (k : Class) → class_of b ≡ k → is_newline k ≡ false → (b == 10) ≡ false
other b k is h = other_by (b == 10) b k refl is h

-- what it says of a token that is a sign: so many bytes are left, and those before are on one line
abbrev SignBy : List ℕ → Spelling → Type 0
SignBy bytes (token (kind.Sign s) text left) = (left < length bytes) × OnOneLine bytes left
SignBy bytes _ = Unit {0}

one : (b : ℕ) (bs : List ℕ) (s : Sign) → (b == 10) ≡ false → SignBy (b ∷ bs) (sign_spelled s (length bs))
one b bs s e = (omega arith, on_line (b ∷ bs) (b ∷ []) bs (length bs) refl refl (λ here. along_all here (b ∷ []) (e, tt)))

two : (b c : ℕ) (cs : List ℕ) (s : Sign) → (b == 10) ≡ false → (c == 10) ≡ false → SignBy (b ∷ c ∷ cs) (sign_spelled s (length cs))
two b c cs s e f = (omega arith, on_line (b ∷ c ∷ cs) (b ∷ c ∷ []) cs (length cs) refl refl (λ here. along_all here (b ∷ c ∷ []) (e, (f, tt))))

three : (b c d : ℕ) (ds : List ℕ) (s : Sign) → (b == 10) ≡ false → (c == 10) ≡ false → (d == 10) ≡ false → SignBy (b ∷ c ∷ d ∷ ds) (sign_spelled s (length ds))
three b c d ds s e f g = (omega arith, on_line (b ∷ c ∷ d ∷ ds) (b ∷ c ∷ d ∷ []) ds (length ds) refl refl (λ here. along_all here (b ∷ c ∷ d ∷ []) (e, (f, (g, tt)))))

colon_by : (b c : ℕ) (cs : List ℕ) (k : Class) → (b == 10) ≡ false → class_of c ≡ k → SignBy (b ∷ c ∷ cs) (colon_before k (length cs))
colon_by b c cs class.Equals e is = two b c cs sign.Defined e (other c class.Equals is refl)
colon_by b c cs _ e is = one b (c ∷ cs) sign.Colon e

colon : (b : ℕ) (bs : List ℕ) → (b == 10) ≡ false → SignBy (b ∷ bs) (behind_colon bs)
colon b [] e = tt
colon b (c ∷ cs) e = colon_by b c cs (class_of c) e refl

equals_by : (b c : ℕ) (cs : List ℕ) (k : Class) → (b == 10) ≡ false → class_of c ≡ k → SignBy (b ∷ c ∷ cs) (equals_before k (length cs))
equals_by b c cs class.Greater e is = two b c cs sign.DoubleArrow e (other c class.Greater is refl)
equals_by b c cs class.Equals e is = two b c cs sign.Equal e (other c class.Equals is refl)
equals_by b c cs _ e is = tt

equals : (b : ℕ) (bs : List ℕ) → (b == 10) ≡ false → SignBy (b ∷ bs) (behind_equals bs)
equals b [] e = tt
equals b (c ∷ cs) e = equals_by b c cs (class_of c) e refl

long_by : (b c d : ℕ) (ds : List ℕ) (k : Class) → (b == 10) ≡ false → (c == 10) ≡ false → class_of d ≡ k → SignBy (b ∷ c ∷ d ∷ ds) (long_before k (length ds))
long_by b c d ds class.Greater e f is = three b c d ds sign.LongArrow e f (other d class.Greater is refl)
long_by b c d ds _ e f is = tt

long : (b c : ℕ) (cs : List ℕ) → (b == 10) ≡ false → (c == 10) ≡ false → SignBy (b ∷ c ∷ cs) (behind_two_minus cs)
long b c [] e f = tt
long b c (d ∷ ds) e f = long_by b c d ds (class_of d) e f refl

minus_by : (b c : ℕ) (cs : List ℕ) (k : Class) → (b == 10) ≡ false → class_of c ≡ k → SignBy (b ∷ c ∷ cs) (minus_before k cs)
minus_by b c cs class.Greater e is = two b c cs sign.Arrow e (other c class.Greater is refl)
minus_by b c cs class.Minus e is = long b c cs e (other c class.Minus is refl)
minus_by b c cs _ e is = tt

minus : (b : ℕ) (bs : List ℕ) → (b == 10) ≡ false → SignBy (b ∷ bs) (behind_minus bs)
minus b [] e = tt
minus b (c ∷ cs) e = minus_by b c cs (class_of c) e refl

blank_by : (bytes : List ℕ) (n : ℕ) (s : Spelling) → IsBlank n s → SignBy bytes s
blank_by bytes n (token k text left) h = absurd h
blank_by bytes n _ h = tt

bracket_by : (b c : ℕ) (cs : List ℕ) (k : Class) → (b == 10) ≡ false → SignBy (b ∷ c ∷ cs) (bracket_before k cs)
bracket_by b c cs class.Semicolon e = blank_by (b ∷ c ∷ cs) (length cs) (comment 1 class.Other cs) (comment_blank 1 class.Other cs)
bracket_by b c cs _ e = one b (c ∷ cs) sign.OpenBracket e

bracket : (b : ℕ) (bs : List ℕ) → (b == 10) ≡ false → SignBy (b ∷ bs) (behind_bracket bs)
bracket b [] e = tt
bracket b (c ∷ cs) e = bracket_by b c cs (class_of c) e

quoted_by : (bytes text : List ℕ) (q : Quoted) → SignBy bytes (quoted_spelled kind.Quoted text q)
quoted_by bytes text (closed body left) = tt
quoted_by bytes text (faulty code left) = tt
quoted_by bytes text open_ended = tt

brace_by : (limit b c : ℕ) (cs : List ℕ) (k : Class) → (b == 10) ≡ false → SignBy (b ∷ c ∷ cs) (open_before limit k cs)
brace_by limit b c cs class.Bar e = quoted_by (b ∷ c ∷ cs) (codes "{|") (quoted limit cs)
brace_by limit b c cs _ e = one b (c ∷ cs) sign.OpenBrace e

brace : (limit b : ℕ) (bs : List ℕ) → (b == 10) ≡ false → SignBy (b ∷ bs) (behind_open limit bs)
brace limit b [] e = tt
brace limit b (c ∷ cs) e = brace_by limit b c cs (class_of c) e

word_by : (bytes xs : List ℕ) (left : ℕ) → SignBy bytes (word_spelled xs left)
word_by bytes [] zero = tt
word_by bytes [] (suc left) = tt
word_by bytes (x ∷ xs) zero = tt
word_by bytes (x ∷ xs) (suc left) = tt

by_class : (limit : ℕ) (k : Class) (b : ℕ) (bs : List ℕ) → class_of b ≡ k → begins_name k ≡ false → SignBy (b ∷ bs) (spelled_by limit k b bs)
by_class limit class.Letter b bs is h = absurd cc
by_class limit class.Digit b bs is h = absurd cc
by_class limit class.Underscore b bs is h = absurd cc
by_class limit class.Colon b bs is h = colon b bs (other b class.Colon is refl)
by_class limit class.Equals b bs is h = equals b bs (other b class.Equals is refl)
by_class limit class.Minus b bs is h = minus b bs (other b class.Minus is refl)
by_class limit class.Dot b bs is h = one b bs sign.Dot (other b class.Dot is refl)
by_class limit class.Comma b bs is h = one b bs sign.Comma (other b class.Comma is refl)
by_class limit class.OpenBracket b bs is h = bracket b bs (other b class.OpenBracket is refl)
by_class limit class.CloseBracket b bs is h = one b bs sign.CloseBracket (other b class.CloseBracket is refl)
by_class limit class.OpenSquare b bs is h = one b bs sign.OpenSquare (other b class.OpenSquare is refl)
by_class limit class.CloseSquare b bs is h = one b bs sign.CloseSquare (other b class.CloseSquare is refl)
by_class limit class.OpenBrace b bs is h = brace limit b bs (other b class.OpenBrace is refl)
by_class limit class.CloseBrace b bs is h = one b bs sign.CloseBrace (other b class.CloseBrace is refl)
by_class limit class.Hash b bs is h = word_by (b ∷ bs) (letters_of bs) (length (behind_letters bs))
by_class limit _ b bs is h = tt

-- a sign where no name begins
pub sign_spelt : (limit : ℕ) (bytes : List ℕ) (b : ℕ) (s : Sign) (left : ℕ) → Some b ≡ slice_get bytes 0 → begins_name (class_of b) ≡ false → spelled_front limit bytes ≡ sign_spelled s left
    → IsSpelt limit bytes (sign_spelled s left) left
sign_spelt limit [] b s left first none is = absurd cc
sign_spelt limit (x ∷ xs) b s left first none is =
    let x_is : b ≡ x = cc in
    let k = subst (SignBy (x ∷ xs)) is (by_class limit (class_of x) x xs refl (ap (λ n. begins_name (class_of n)) (sym x_is) ∙ none)) in
    record { is = is; leaves = k.0; line = k.1 }
