-- Trusted: what is spelt at a place: the longest spelling of a blank, a comment or a token that stands there
-- (Dedukti manual, lexical conventions; docs/syntax.md).
use Rattle.std.specs.Prelude.{ℕ, zero, suc, ◌+◌, ◌-◌, Bool, true, false, List, [], ◌∷◌, ◌++◌, length, codes, if◌then◌else◌, nat_le, ◌==◌, ◌||◌, ◌&&◌, not}
use Rattle.std.specs.List.{list_all}
use Rattle.std.specs.Str.{bytes_eq}
use Rattle.dk_model.specs.declared.code.Code.{Code}
use Rattle.dk_model.specs.declared.code.Code.TheVariants.{E01, E03, E05}
use Rattle.dk_lexer.specs.declared.token.TokenKind.{TokenKind}
use Rattle.dk_lexer.specs.declared.token.TokenKind.TheVariants as kind
use Rattle.dk_lexer.specs.declared.token.Sign.{Sign}
use Rattle.dk_lexer.specs.declared.token.Sign.TheVariants as sign
use Rattle.dk_lexer.specs.declared.class.Class.{Class}
use Rattle.dk_lexer.specs.declared.class.Class.TheVariants as class
use Rattle.dk_lexer.specs.Classes.{class_of, in_name, is_letter_class}

-- What stands at a place. The number counts the bytes that are left: behind it, or from the byte at fault on.
pub data Spelling : Type 0 where
  -- a blank or a closed comment
  blank : ℕ → Spelling
  -- a token, its kind and its spelling
  token : TokenKind → List ℕ → ℕ → Spelling
  -- a plain run and, directly behind it, a dot that is the sign
  run_and_dot : List ℕ → ℕ → Spelling
  -- no token, but a fault
  wrong : Code → ℕ → Spelling
  -- the input ends inside a comment
  comment_open : Spelling
  -- the input ends before it is settled what stands here; and what it is if the end settles it
  unsettled : Spelling → Spelling
  -- a plain run, a dot and a brace: whether the brace belongs to a name is known only at the byte behind it.
  -- The number counts the bytes that are left from the brace on
  late : ℕ → Spelling → Spelling

-- what the bytes up to the end of the input, or a byte behind them, settle
abbrev pub up_to : Spelling → ℕ → Spelling
up_to spelling zero = unsettled spelling
up_to spelling (suc left) = spelling

-- the longest run of bytes of names, and what is behind it
abbrev pub run_of : List ℕ → List ℕ
run_of [] = []
run_of (b ∷ bs) = if in_name (class_of b) then b ∷ run_of bs else []

abbrev pub behind_run : List ℕ → List ℕ
behind_run [] = []
behind_run (b ∷ bs) = if in_name (class_of b) then behind_run bs else b ∷ bs

-- the longest run of letters, and what is behind it
abbrev pub letters_of : List ℕ → List ℕ
letters_of [] = []
letters_of (b ∷ bs) = if is_letter_class (class_of b) then b ∷ letters_of bs else []

abbrev pub behind_letters : List ℕ → List ℕ
behind_letters [] = []
behind_letters (b ∷ bs) = if is_letter_class (class_of b) then behind_letters bs else b ∷ bs

-- the wildcard is the run `_` alone
abbrev pub is_wildcard : List ℕ → Bool
is_wildcard (b ∷ []) = b == 95
is_wildcard _ = false

-- may it stand in a name
abbrev pub is_name_byte : ℕ → Bool
is_name_byte b = in_name (class_of b)

-- a plain name as a whole: bytes of names, of which the first isn't `'`, but not the wildcard
abbrev pub is_plain_name : List ℕ → Bool
is_plain_name [] = false
is_plain_name (b ∷ bs) = not (is_wildcard (b ∷ bs)) && (not (b == 39) && list_all is_name_byte (b ∷ bs))

-- the words that the profile leaves out
abbrev pub is_outside : List ℕ → Bool
is_outside text = ((bytes_eq text (codes "defac") || bytes_eq text (codes "defacu")) || bytes_eq text (codes "injective")) || bytes_eq text (codes "private")

-- what a plain run is that stands alone
unfoldable pub kind_of : List ℕ → TokenKind
kind_of text = if is_wildcard text then kind.Wildcard else (if bytes_eq text (codes "Type") then kind.Star
    else (if bytes_eq text (codes "def") then kind.Def else (if bytes_eq text (codes "thm") then kind.Thm
    else (if is_outside text then kind.Profile else kind.Plain))))

-- How what is left of a quoted name ends: with the first `|}`, at a fault, or not before the input does.
pub data Quoted : Type 0 where
  -- the bytes before the closing sign, and how many are left behind it
  closed : List ℕ → ℕ → Quoted
  faulty : Code → ℕ → Quoted
  open_ended : Quoted

abbrev pub one_more : ℕ → Quoted → Quoted
one_more b (closed body left) = closed (b ∷ body) left
one_more b (faulty code left) = faulty code left
one_more b open_ended = open_ended

-- at this byte the name has more bytes than it may; a newline never stands in a name
abbrev pub too_long : Class → ℕ → Quoted
too_long class.Newline left = faulty E01 left
too_long _ left = faulty E05 left

-- behind a bar in a quoted name: a brace closes it, else the bar is a byte of the name
abbrev pub bar_before : Class → ℕ → Quoted → Quoted
bar_before class.CloseBrace left more = closed [] left
bar_before _ left more = more

abbrev pub behind_bar : List ℕ → Quoted → Quoted
behind_bar [] more = open_ended
behind_bar (c ∷ cs) more = bar_before (class_of c) (length cs) more

-- behind a bar in a quoted name that is as long as it may be
abbrev pub behind_last_bar : List ℕ → Quoted
behind_last_bar [] = open_ended
behind_last_bar (c ∷ cs) = bar_before (class_of c) (length cs) (too_long (class_of c) (suc (length cs)))

-- a byte of a quoted name that may have more bytes, and what they make of it
abbrev pub quoted_byte : Class → ℕ → List ℕ → Quoted → Quoted
quoted_byte class.Newline b bs more = faulty E01 (suc (length bs))
quoted_byte class.Bar b bs more = behind_bar bs (one_more 124 more)
quoted_byte _ b bs more = one_more b more

-- a byte behind a quoted name that is as long as it may be
abbrev pub last_byte : Class → List ℕ → Quoted
last_byte class.Bar bs = behind_last_bar bs
last_byte class bs = too_long class (suc (length bs))

-- the rest of a quoted name that may have so many bytes more
abbrev pub quoted : ℕ → List ℕ → Quoted
quoted room [] = open_ended
quoted zero (b ∷ bs) = last_byte (class_of b) bs
quoted (suc room) (b ∷ bs) = quoted_byte (class_of b) b bs (quoted room bs)

-- a quoted name, or a qualified one whose second part is quoted, from its text up to here
abbrev pub quoted_spelled : TokenKind → List ℕ → Quoted → Spelling
quoted_spelled kind text (closed body left) = token kind (text ++ (body ++ codes "|}")) left
quoted_spelled kind text (faulty code left) = wrong code left
quoted_spelled kind text open_ended = unsettled (wrong E03 0)

-- Two bytes in a comment: they open one inside it, close it, or do neither.
pub data Pair : Type 0 where
  opens : Pair
  closes : Pair
  apart : Pair

abbrev pub pair : Class → Class → Pair
pair class.OpenBracket class.Semicolon = opens
pair class.Semicolon class.CloseBracket = closes
pair _ _ = apart

-- The rest of a comment: how many comments are open, and the class of the byte before, which is `Other` where that
-- byte is part of a sign already.
abbrev pub comment : ℕ → Class → List ℕ → Spelling
comment depth last [] = comment_open
comment depth last (b ∷ bs) = elim (pair last (class_of b)) [
  | opens ↦ comment (depth + 1) class.Other bs
  | closes ↦ elim (nat_le depth 1) [ true ↦ blank (length bs) | false ↦ comment (depth - 1) class.Other bs ]
  | apart ↦ comment depth (class_of b) bs
]

-- a qualified name whose second part is a run: the wildcard can't be one
abbrev pub second_settled : Bool → List ℕ → List ℕ → ℕ → Spelling
second_settled true first second left = wrong E01 left
second_settled false first second left = token kind.Qualified (first ++ 46 ∷ second) left

abbrev pub second_spelled : ℕ → List ℕ → List ℕ → ℕ → Spelling
second_spelled limit first second left =
    if nat_le (length second) limit then up_to (second_settled (is_wildcard second) first second left) left
    else wrong E05 ((length second - limit) + left)

-- behind a plain run, a dot and a brace
abbrev pub brace_before : ℕ → List ℕ → Class → List ℕ → Spelling
brace_before limit text class.Bar ds = quoted_spelled kind.Qualified (text ++ codes ".{|") (quoted limit ds)
brace_before limit text _ ds = run_and_dot text (suc (suc (length ds)))

abbrev pub behind_brace : ℕ → List ℕ → List ℕ → Spelling
behind_brace limit text [] = unsettled (run_and_dot text 1)
behind_brace limit text (d ∷ ds) = brace_before limit text (class_of d) ds

-- behind a plain run and a dot: a second part at once makes it a qualified name, else the dot is the sign
abbrev pub dot_before : ℕ → List ℕ → Class → ℕ → List ℕ → Spelling
dot_before limit text class.Letter c cs = second_spelled limit text (c ∷ run_of cs) (length (behind_run cs))
dot_before limit text class.Digit c cs = second_spelled limit text (c ∷ run_of cs) (length (behind_run cs))
dot_before limit text class.Underscore c cs = second_spelled limit text (c ∷ run_of cs) (length (behind_run cs))
dot_before limit text class.OpenBrace c cs = late (suc (length cs)) (behind_brace limit text cs)
dot_before limit text _ c cs = run_and_dot text (suc (length cs))

abbrev pub behind_dot : ℕ → List ℕ → List ℕ → Spelling
behind_dot limit text [] = unsettled (run_and_dot text 0)
behind_dot limit text (c ∷ cs) = dot_before limit text (class_of c) c cs

-- behind a plain run; a dot behind a wildcard is the sign
abbrev pub run_before : ℕ → List ℕ → Class → List ℕ → Spelling
run_before limit text class.Dot bs = if is_wildcard text then token (kind_of text) text (suc (length bs)) else behind_dot limit text bs
run_before limit text _ bs = token (kind_of text) text (suc (length bs))

abbrev pub behind_name : ℕ → List ℕ → List ℕ → Spelling
behind_name limit text [] = unsettled (token (kind_of text) text 0)
behind_name limit text (b ∷ bs) = run_before limit text (class_of b) bs

abbrev pub name_spelled : ℕ → List ℕ → List ℕ → Spelling
name_spelled limit text rest = if nat_le (length text) limit then behind_name limit text rest else wrong E05 ((length text - limit) + length rest)

-- `#` and letters
abbrev pub word_spelled : List ℕ → ℕ → Spelling
word_spelled [] left = up_to (wrong E01 left) left
word_spelled (x ∷ xs) left = up_to (token kind.Profile (35 ∷ x ∷ xs) left) left

abbrev pub sign_spelled : Sign → ℕ → Spelling
sign_spelled sign left = token (kind.Sign sign) [] left

-- the signs that begin alike, a comment and a quoted name
abbrev pub colon_before : Class → ℕ → Spelling
colon_before class.Equals left = sign_spelled sign.Defined left
colon_before _ left = sign_spelled sign.Colon (suc left)

abbrev pub behind_colon : List ℕ → Spelling
behind_colon [] = unsettled (sign_spelled sign.Colon 0)
behind_colon (c ∷ cs) = colon_before (class_of c) (length cs)

abbrev pub equals_before : Class → ℕ → Spelling
equals_before class.Greater left = sign_spelled sign.DoubleArrow left
equals_before class.Equals left = sign_spelled sign.Equal left
equals_before _ left = wrong E01 (suc left)

abbrev pub behind_equals : List ℕ → Spelling
behind_equals [] = unsettled (wrong E03 0)
behind_equals (c ∷ cs) = equals_before (class_of c) (length cs)

abbrev pub long_before : Class → ℕ → Spelling
long_before class.Greater left = sign_spelled sign.LongArrow left
long_before _ left = wrong E01 (suc left)

abbrev pub behind_two_minus : List ℕ → Spelling
behind_two_minus [] = unsettled (wrong E03 0)
behind_two_minus (c ∷ cs) = long_before (class_of c) (length cs)

abbrev pub minus_before : Class → List ℕ → Spelling
minus_before class.Greater cs = sign_spelled sign.Arrow (length cs)
minus_before class.Minus cs = behind_two_minus cs
minus_before _ cs = wrong E01 (suc (length cs))

abbrev pub behind_minus : List ℕ → Spelling
behind_minus [] = unsettled (wrong E03 0)
behind_minus (c ∷ cs) = minus_before (class_of c) cs

abbrev pub bracket_before : Class → List ℕ → Spelling
bracket_before class.Semicolon cs = comment 1 class.Other cs
bracket_before _ cs = sign_spelled sign.OpenBracket (suc (length cs))

abbrev pub behind_bracket : List ℕ → Spelling
behind_bracket [] = unsettled (sign_spelled sign.OpenBracket 0)
behind_bracket (c ∷ cs) = bracket_before (class_of c) cs

abbrev pub open_before : ℕ → Class → List ℕ → Spelling
open_before limit class.Bar cs = quoted_spelled kind.Quoted (codes "{|") (quoted limit cs)
open_before limit _ cs = sign_spelled sign.OpenBrace (suc (length cs))

abbrev pub behind_open : ℕ → List ℕ → Spelling
behind_open limit [] = unsettled (sign_spelled sign.OpenBrace 0)
behind_open limit (c ∷ cs) = open_before limit (class_of c) cs

-- what stands at a byte of this class, with the bytes behind it
abbrev pub spelled_by : ℕ → Class → ℕ → List ℕ → Spelling
spelled_by limit class.Letter b bs = name_spelled limit (b ∷ run_of bs) (behind_run bs)
spelled_by limit class.Digit b bs = name_spelled limit (b ∷ run_of bs) (behind_run bs)
spelled_by limit class.Underscore b bs = name_spelled limit (b ∷ run_of bs) (behind_run bs)
spelled_by limit class.Quote b bs = wrong E01 (suc (length bs))
spelled_by limit class.Blank b bs = blank (length bs)
spelled_by limit class.Newline b bs = blank (length bs)
spelled_by limit class.Colon b bs = behind_colon bs
spelled_by limit class.Equals b bs = behind_equals bs
spelled_by limit class.Minus b bs = behind_minus bs
spelled_by limit class.Greater b bs = wrong E01 (suc (length bs))
spelled_by limit class.Dot b bs = sign_spelled sign.Dot (length bs)
spelled_by limit class.Comma b bs = sign_spelled sign.Comma (length bs)
spelled_by limit class.OpenBracket b bs = behind_bracket bs
spelled_by limit class.CloseBracket b bs = sign_spelled sign.CloseBracket (length bs)
spelled_by limit class.OpenSquare b bs = sign_spelled sign.OpenSquare (length bs)
spelled_by limit class.CloseSquare b bs = sign_spelled sign.CloseSquare (length bs)
spelled_by limit class.OpenBrace b bs = behind_open limit bs
spelled_by limit class.CloseBrace b bs = sign_spelled sign.CloseBrace (length bs)
spelled_by limit class.Bar b bs = wrong E01 (suc (length bs))
spelled_by limit class.Semicolon b bs = wrong E01 (suc (length bs))
spelled_by limit class.Hash b bs = word_spelled (letters_of bs) (length (behind_letters bs))
spelled_by limit class.Other b bs = wrong E01 (suc (length bs))

-- what stands at a byte, with the bytes behind it, where a name may have `limit` bytes
abbrev pub spelled : ℕ → ℕ → List ℕ → Spelling
spelled limit b bs = spelled_by limit (class_of b) b bs
