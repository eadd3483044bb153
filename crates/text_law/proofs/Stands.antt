-- What stands at a byte: a token that is a dot is one byte, of its own class; what the bytes don't settle is no blank and no
-- such token; behind a run and a dot the brace, and what follows it, are among the bytes that are left at it.
use Rattle.std.proofs.Common.{ℕ, zero, suc, ◌+◌, ◌≡◌, ◌≤◌, Bool, true, false, nat_le, List, [], ◌∷◌, ◌++◌, length, codes, if◌then◌else◌, refl, subst, arith}
use Rattle.dk_lexer.specs.declared.token.TokenKind.{TokenKind}
use Rattle.dk_lexer.specs.declared.token.TokenKind.TheVariants as kind
use Rattle.dk_lexer.specs.declared.class.Class.{Class}
use Rattle.dk_lexer.specs.declared.class.Class.TheVariants as class
use Rattle.dk_lexer.specs.Classes.{class_of}
use Rattle.dk_lexer.specs.Spelling.{Spelling, blank, token, run_and_dot, wrong, comment_open, unsettled, late, run_of, behind_run, letters_of, behind_letters, up_to, quoted, is_wildcard, Quoted, closed, faulty, open_ended, quoted_spelled, comment, second_settled, second_spelled, brace_before, behind_brace, dot_before, behind_dot, run_before, behind_name, name_spelled, word_spelled, colon_before, behind_colon, equals_before, behind_equals, long_before, behind_two_minus, minus_before, behind_minus, bracket_before, behind_bracket, open_before, behind_open, spelled_by, spelled}
use Rattle.dk_lexer.proofs.Leaves.{QuotedLeaves, quoted_leaves}
use Rattle.one_lexer.proofs.Leaves.{IsBlank, comment_blank}
use Rattle.text_law.proofs.Dots.{keeps_open, kind_open}

-- what stands at a run, a dot and a brace, from which on so many bytes are left
abbrev pub InLate : ℕ → Spelling → Type 0
InLate m (token k text left) = (left + 2 ≤ m) × (keeps_open k ≡ true)
InLate m (run_and_dot text left) = (m ≡ left) × (1 ≤ left)
InLate m (wrong code left) = 1 ≤ m
InLate m (unsettled s) = InLate m s
InLate m _ = ⊥

-- what the bytes don't settle
abbrev pub Waits : Spelling → Type 0
Waits (token k text left) = keeps_open k ≡ true
Waits (run_and_dot text left) = Unit {0}
Waits (wrong code left) = Unit {0}
Waits _ = ⊥

abbrev pub IsOpen : Spelling → Type 0
IsOpen (token k text left) = keeps_open k ≡ true
IsOpen (unsettled s) = Waits s
IsOpen (late m s) = InLate m s
IsOpen _ = Unit {0}

-- what stands at a byte of this class
abbrev pub IsKind : Class → Spelling → Type 0
IsKind class.Dot s = Unit {0}
IsKind _ s = IsOpen s

-- ---- names

either : (t : Bool) (x y : Spelling) → IsOpen x → IsOpen y → IsOpen (if t then x else y)
either true x y p q = p
either false x y p q = q

settled : (s : Spelling) (left : ℕ) → Waits s → IsOpen s → IsOpen (up_to s left)
settled s zero w h = w
settled s (suc left) w h = h

quoted_name : (k : TokenKind) (text : List ℕ) (q : Quoted) → keeps_open k ≡ true → IsOpen (quoted_spelled k text q)
quoted_name k text (closed body left) h = h
quoted_name k text (faulty code left) h = tt
quoted_name k text open_ended h = tt

second_by : (t : Bool) (first second : List ℕ) (left : ℕ) → IsOpen (up_to (second_settled t first second left) left)
second_by true first second left = settled _ left tt tt
second_by false first second left = settled (second_settled false first second left) left refl refl

second : (limit : ℕ) (first name : List ℕ) (left : ℕ) → IsOpen (second_spelled limit first name left)
second limit first name left = either (nat_le (length name) limit) _ _ (second_by (is_wildcard name) first name left) tt

quoted_late : (n m : ℕ) (text : List ℕ) (q : Quoted) → n + 2 ≤ m → QuotedLeaves n q → InLate m (quoted_spelled kind.Qualified text q)
quoted_late n m text (closed body left) le h = (omega arith, refl)
quoted_late n m text (faulty code left) le h = omega arith
quoted_late n m text open_ended le h = omega arith

brace_by : (limit : ℕ) (text : List ℕ) (c : Class) (ds : List ℕ) → InLate (suc (suc (length ds))) (brace_before limit text c ds)
brace_by limit text class.Bar ds = quoted_late (length ds) (suc (suc (length ds))) (text ++ codes ".{|") (quoted limit ds) (omega arith) (quoted_leaves limit ds)
brace_by limit text _ ds = (refl, omega arith)

brace : (limit : ℕ) (text bs : List ℕ) → InLate (suc (length bs)) (behind_brace limit text bs)
brace limit text [] = (refl, omega arith)
brace limit text (d ∷ ds) = brace_by limit text (class_of d) ds

dot_by : (limit : ℕ) (text : List ℕ) (k : Class) (c : ℕ) (cs : List ℕ) → IsOpen (dot_before limit text k c cs)
dot_by limit text class.Letter c cs = second limit text (c ∷ run_of cs) (length (behind_run cs))
dot_by limit text class.Digit c cs = second limit text (c ∷ run_of cs) (length (behind_run cs))
dot_by limit text class.Underscore c cs = second limit text (c ∷ run_of cs) (length (behind_run cs))
dot_by limit text class.OpenBrace c cs = brace limit text cs
dot_by limit text _ c cs = tt

dot : (limit : ℕ) (text bs : List ℕ) → IsOpen (behind_dot limit text bs)
dot limit text [] = tt
dot limit text (c ∷ cs) = dot_by limit text (class_of c) c cs

run_by : (limit : ℕ) (text : List ℕ) (c : Class) (bs : List ℕ) → IsOpen (run_before limit text c bs)
run_by limit text class.Dot bs = either (is_wildcard text) _ _ (kind_open text) (dot limit text bs)
run_by limit text _ bs = kind_open text

name_by : (limit : ℕ) (text bs : List ℕ) → IsOpen (behind_name limit text bs)
name_by limit text [] = kind_open text
name_by limit text (b ∷ bs) = run_by limit text (class_of b) bs

name : (limit : ℕ) (text rest : List ℕ) → IsOpen (name_spelled limit text rest)
name limit text rest = either (nat_le (length text) limit) _ _ (name_by limit text rest) tt

-- ---- words, signs and comments

word : (text : List ℕ) (left : ℕ) → IsOpen (word_spelled text left)
word [] left = settled _ left tt tt
word (x ∷ xs) left = settled (token kind.Profile (35 ∷ x ∷ xs) left) left refl refl

colon_by : (c : Class) (left : ℕ) → IsOpen (colon_before c left)
colon_by class.Equals left = refl
colon_by _ left = refl

colon : (bs : List ℕ) → IsOpen (behind_colon bs)
colon [] = refl
colon (c ∷ cs) = colon_by (class_of c) (length cs)

equals_by : (c : Class) (left : ℕ) → IsOpen (equals_before c left)
equals_by class.Greater left = refl
equals_by class.Equals left = refl
equals_by _ left = tt

equals : (bs : List ℕ) → IsOpen (behind_equals bs)
equals [] = tt
equals (c ∷ cs) = equals_by (class_of c) (length cs)

long_by : (c : Class) (left : ℕ) → IsOpen (long_before c left)
long_by class.Greater left = refl
long_by _ left = tt

two_minus : (bs : List ℕ) → IsOpen (behind_two_minus bs)
two_minus [] = tt
two_minus (c ∷ cs) = long_by (class_of c) (length cs)

minus_by : (c : Class) (cs : List ℕ) → IsOpen (minus_before c cs)
minus_by class.Greater cs = refl
minus_by class.Minus cs = two_minus cs
minus_by _ cs = tt

minus : (bs : List ℕ) → IsOpen (behind_minus bs)
minus [] = tt
minus (c ∷ cs) = minus_by (class_of c) cs

blank_open : (n : ℕ) (s : Spelling) → IsBlank n s → IsOpen s
blank_open n (blank left) h = tt
blank_open n comment_open h = tt
blank_open n _ h = absurd h

bracket_by : (c : Class) (cs : List ℕ) → IsOpen (bracket_before c cs)
bracket_by class.Semicolon cs = blank_open (length cs) (comment 1 class.Other cs) (comment_blank 1 class.Other cs)
bracket_by _ cs = refl

bracket : (bs : List ℕ) → IsOpen (behind_bracket bs)
bracket [] = refl
bracket (c ∷ cs) = bracket_by (class_of c) cs

open_by : (limit : ℕ) (c : Class) (cs : List ℕ) → IsOpen (open_before limit c cs)
open_by limit class.Bar cs = quoted_name kind.Quoted (codes "{|") (quoted limit cs) refl
open_by limit _ cs = refl

open_brace : (limit : ℕ) (bs : List ℕ) → IsOpen (behind_open limit bs)
open_brace limit [] = refl
open_brace limit (c ∷ cs) = open_by limit (class_of c) cs

pub kind_by : (limit : ℕ) (c : Class) (b : ℕ) (bs : List ℕ) → IsKind c (spelled_by limit c b bs)
kind_by limit class.Letter b bs = name limit (b ∷ run_of bs) (behind_run bs)
kind_by limit class.Digit b bs = name limit (b ∷ run_of bs) (behind_run bs)
kind_by limit class.Underscore b bs = name limit (b ∷ run_of bs) (behind_run bs)
kind_by limit class.Colon b bs = colon bs
kind_by limit class.Equals b bs = equals bs
kind_by limit class.Minus b bs = minus bs
kind_by limit class.Dot b bs = tt
kind_by limit class.Comma b bs = refl
kind_by limit class.OpenBracket b bs = bracket bs
kind_by limit class.CloseBracket b bs = refl
kind_by limit class.OpenSquare b bs = refl
kind_by limit class.CloseSquare b bs = refl
kind_by limit class.OpenBrace b bs = open_brace limit bs
kind_by limit class.CloseBrace b bs = refl
kind_by limit class.Hash b bs = word (letters_of bs) (length (behind_letters bs))
kind_by limit _ b bs = tt

-- ---- whatever stands there

-- what the bytes don't settle, or a brace behind a run and a dot does late, is a token or a fault
abbrev pub IsSure : Spelling → Type 0
IsSure (unsettled s) = Waits s
IsSure (late m s) = InLate m s
IsSure _ = Unit {0}

open_sure : (s : Spelling) → IsOpen s → IsSure s
open_sure (unsettled s) h = h
open_sure (late m s) h = h
open_sure _ h = tt

kind_sure : (limit : ℕ) (c : Class) (b : ℕ) (bs : List ℕ) → IsKind c (spelled_by limit c b bs) → IsSure (spelled_by limit c b bs)
kind_sure limit class.Dot b bs h = tt
kind_sure limit c b bs h = open_sure (spelled_by limit c b bs) h

pub sure : (limit b : ℕ) (bs : List ℕ) → IsSure (spelled limit b bs)
sure limit b bs = kind_sure limit (class_of b) b bs (kind_by limit (class_of b) b bs)

-- what it is in the end
abbrev pub core : Spelling → Spelling
core (unsettled s) = core s
core (late m s) = core s
core s = s

late_core : (m : ℕ) (s : Spelling) (k : TokenKind) (text : List ℕ) (left : ℕ) → InLate m s → core s ≡ token k text left → keeps_open k ≡ true
late_core m (token k' text' left') k text left h e = subst (λ (x : Spelling). IsOpen x) e h.1
late_core m (run_and_dot text' left') k text left h e = absurd cc
late_core m (wrong code left') k text left h e = absurd cc
late_core m (unsettled s) k text left h e = late_core m s k text left h e
late_core m _ k text left h e = absurd h

open_core : (s : Spelling) (k : TokenKind) (text : List ℕ) (left : ℕ) → IsOpen s → core s ≡ token k text left → keeps_open k ≡ true
open_core (token k' text' left') k text left h e = subst (λ (x : Spelling). IsOpen x) e h
open_core (unsettled (token k' text' left')) k text left h e = subst (λ (x : Spelling). IsOpen x) e h
open_core (unsettled (run_and_dot text' left')) k text left h e = absurd cc
open_core (unsettled (wrong code left')) k text left h e = absurd cc
open_core (unsettled s) k text left h e = absurd h
open_core (late m s) k text left h e = late_core m s k text left h e
open_core _ k text left h e = absurd cc

-- a token is no dot, or it is this byte
pub data IsToken (b : ℕ) (k : TokenKind) : Type 0 where
  no_dot : keeps_open k ≡ true → IsToken b k
  is_dot : class_of b ≡ class.Dot → IsToken b k

token_by : (limit : ℕ) (c : Class) (b : ℕ) (bs : List ℕ) (k : TokenKind) (text : List ℕ) (left : ℕ) → class_of b ≡ c → IsKind c (spelled_by limit c b bs) → core (spelled_by limit c b bs) ≡ token k text left → IsToken b k
token_by limit class.Dot b bs k text left is h e = is_dot is
token_by limit c b bs k text left is h e = no_dot (open_core (spelled_by limit c b bs) k text left h e)

pub token_kind : (limit b : ℕ) (bs : List ℕ) (k : TokenKind) (text : List ℕ) (left : ℕ) → core (spelled limit b bs) ≡ token k text left → IsToken b k
token_kind limit b bs k text left e = token_by limit (class_of b) b bs k text left refl (kind_by limit (class_of b) b bs) e

-- ---- a brace behind a run and a dot is among the bytes that are left there

abbrev pub KeepsBrace : Spelling → Type 0
KeepsBrace (late left s) = (1 ≤ left) × KeepsBrace s
KeepsBrace (unsettled s) = KeepsBrace s
KeepsBrace s = Unit {0}

late_keeps : (m : ℕ) (s : Spelling) → InLate m s → (1 ≤ m) × KeepsBrace s
late_keeps m (token k text left) h = (let le : left + 2 ≤ m = h.0 in omega arith, tt)
late_keeps m (run_and_dot text left) h = (let e : m ≡ left = h.0 in let le : 1 ≤ left = h.1 in omega arith, tt)
late_keeps m (wrong code left) h = (h, tt)
late_keeps m (unsettled s) h = late_keeps m s h
late_keeps m _ h = absurd h

waits_keep : (s : Spelling) → Waits s → KeepsBrace s
waits_keep (unsettled s) h = absurd h
waits_keep (late m s) h = absurd h
waits_keep _ h = tt

sure_keeps : (s : Spelling) → IsSure s → KeepsBrace s
sure_keeps (unsettled s) h = waits_keep s h
sure_keeps (late m s) h = late_keeps m s h
sure_keeps _ h = tt

pub keeps_brace : (limit b : ℕ) (bs : List ℕ) → KeepsBrace (spelled limit b bs)
keeps_brace limit b bs = sure_keeps (spelled limit b bs) (sure limit b bs)
