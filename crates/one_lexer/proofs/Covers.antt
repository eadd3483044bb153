-- What the bytes don't settle: however they go on, what stands there has all of them. So where they are past their
-- bound, it is at fault for good.
use Rattle.std.proofs.Common.{inl, inr, ◌≡◌, ◌≤◌, ℕ, zero, suc, ◌+◌, Bool, true, false, nat_le, List, [], ◌∷◌, ◌++◌, length, codes, if◌then◌else◌, refl, sym, ap, subst, ◌∙◌, arith, length-append}
use Rattle.std.specs.Prelude.{◌⊎◌}
use borrow.Author.Tests.{leb-true}
use Rattle.dk_lexer.specs.declared.token.TokenKind.{TokenKind}
use Rattle.dk_lexer.specs.declared.token.TokenKind.TheVariants as kind
use Rattle.dk_lexer.specs.declared.class.Class.{Class}
use Rattle.dk_lexer.specs.declared.class.Class.TheVariants as class
use Rattle.dk_lexer.specs.Classes.{class_of}
use Rattle.dk_lexer.specs.Spelling.{Spelling, token, unsettled, late, Quoted, closed, faulty, open_ended, bar_before, behind_bracket, behind_brace, behind_colon, behind_dot, behind_equals, behind_letters, behind_minus, behind_name, behind_open, behind_run, behind_two_minus, bracket_before, brace_before, colon_before, comment, dot_before, equals_before, is_wildcard, kind_of, last_byte, letters_of, long_before, minus_before, name_spelled, one_more, open_before, quoted, quoted_byte, quoted_spelled, run_before, run_of, second_settled, second_spelled, spelled_by, too_long, word_spelled}
use Rattle.one_lexer.proofs.Leaves.{colon_leaves, comment_blank, equals_leaves, minus_leaves, open_leaves, two_minus_leaves}
use Rattle.one_lexer.proofs.Leaves.{IsBlank, blank_more}
use Rattle.dk_lexer.proofs.Leaves.{QuotedLeaves, behind_bar_leaves, behind_name_leaves, dot_leaves, last_bar_leaves, letters_leave, name_leaves, one_leaves, quoted_leaves, second_leaves, spelled_leaves, up_to_leaves, word_leaves}
use Rattle.dk_lexer.proofs.Outcomes.{Leaves}
use Rattle.one_lexer.specs.Views.{spelled_front}
use Rattle.one_lexer.proofs.SettledNames.{Extends, chosen_name, chosen_second, head_extends, letters_extend}

-- what stands there with so many bytes more: no more of them are left; or a comment begins with the one byte
pub data Grown (size n : ℕ) (new : Spelling) : Type 0 where
  grows : Leaves n new → Grown size n new
  opens_comment : size ≡ 1 → IsBlank n new → Grown size n new

-- behind a brace: the same, or the brace is the last byte
pub record GrownLate (m n : ℕ) (new : Spelling) : Type 0 where
  pub inner : Spelling
  pub is : new ≡ late (m + n) inner
  pub leaves : Leaves n inner ⊎ (m ≡ 1)

-- what isn't settled goes on so
abbrev pub Covers : ℕ → ℕ → Spelling → Spelling → Type 0
Covers size n (unsettled s) new = Grown size n new
Covers size n (late m (unsettled s)) new = GrownLate m n new
Covers size n _ new = Unit {0}

-- ---- quoted names

long_ends : (c : Class) (left : ℕ) → too_long c left ≡ open_ended → ⊥
long_ends class.Newline left h = absurd cc
long_ends _ left h = absurd cc

bar_ends : (c : Class) (left : ℕ) (more : Quoted) → (more ≡ open_ended → ⊥) → bar_before c left more ≡ open_ended → ⊥
bar_ends class.CloseBrace left more ends h = absurd cc
bar_ends _ left more ends h = ends h

one_open : (b : ℕ) (q : Quoted) → one_more b q ≡ open_ended → q ≡ open_ended
one_open b (closed body left) h = absurd cc
one_open b (faulty code left) h = absurd cc
one_open b open_ended h = refl

bar_grows : (c : Class) (left right n : ℕ) (old new : Quoted) → bar_before c left old ≡ open_ended → (old ≡ open_ended → QuotedLeaves n new) → QuotedLeaves n (bar_before c right new)
bar_grows class.CloseBrace left right n old new h grown = absurd cc
bar_grows _ left right n old new h grown = grown h

last_grows : (c : Class) (bs more : List ℕ) → last_byte c bs ≡ open_ended → QuotedLeaves (length more) (last_byte c (bs ++ more))
last_grows class.Bar [] more h = last_bar_leaves more
last_grows class.Bar (c ∷ cs) more h = absurd (bar_ends (class_of c) (length cs) (too_long (class_of c) (suc (length cs))) (long_ends (class_of c) (suc (length cs))) h)
last_grows class.Newline bs more h = absurd cc
last_grows _ bs more h = absurd cc

byte_grows : (c : Class) (room b : ℕ) (bs more : List ℕ) → quoted_byte c b bs (quoted room bs) ≡ open_ended → (quoted room bs ≡ open_ended → QuotedLeaves (length more) (quoted room (bs ++ more)))
    → QuotedLeaves (length more) (quoted_byte c b (bs ++ more) (quoted room (bs ++ more)))
byte_grows class.Newline room b bs more h ih = absurd cc
byte_grows class.Bar room b [] more h ih = behind_bar_leaves more (one_more 124 (quoted room more)) (one_leaves (length more) 124 (quoted room more) (quoted_leaves room more))
byte_grows class.Bar room b (c ∷ cs) more h ih =
    bar_grows (class_of c) (length cs) (length (cs ++ more)) (length more) (one_more 124 (quoted room (c ∷ cs))) (one_more 124 (quoted room (c ∷ (cs ++ more)))) h
    (λ e. one_leaves (length more) 124 (quoted room (c ∷ (cs ++ more))) (ih (one_open 124 (quoted room (c ∷ cs)) e)))
byte_grows _ room b bs more h ih = one_leaves (length more) b (quoted room (bs ++ more)) (ih (one_open b (quoted room bs) h))

pub quoted_grows : (room : ℕ) (bs more : List ℕ) → quoted room bs ≡ open_ended → QuotedLeaves (length more) (quoted room (bs ++ more))
quoted_grows room [] more h = quoted_leaves room more
quoted_grows zero (b ∷ bs) more h = last_grows (class_of b) bs more h
quoted_grows (suc room) (b ∷ bs) more h = byte_grows (class_of b) room b bs more h (quoted_grows room bs more)

quoted_covers : (size n : ℕ) (kind : TokenKind) (text : List ℕ) (old new : Quoted) → (old ≡ open_ended → QuotedLeaves n new) → Covers size n (quoted_spelled kind text old) (quoted_spelled kind text new)
quoted_covers size n kind text (closed body left) new grown = tt
quoted_covers size n kind text (faulty code left) new grown = tt
quoted_covers size n kind text open_ended new grown = grows (spelled_leaves n kind text new (grown refl))

late_covers : (size m k n : ℕ) (kind : TokenKind) (text : List ℕ) (old new : Quoted) → k ≡ m + n → (old ≡ open_ended → QuotedLeaves n new)
    → Covers size n (late m (quoted_spelled kind text old)) (late k (quoted_spelled kind text new))
late_covers size m k n kind text (closed body left) new e grown = tt
late_covers size m k n kind text (faulty code left) new e grown = tt
late_covers size m k n kind text open_ended new e grown = record {
  inner = quoted_spelled kind text new;
  is = ap (λ (i : ℕ). late i (quoted_spelled kind text new)) e;
  leaves = inl (spelled_leaves n kind text new (grown refl));
}

-- ---- second parts

brace_covers : (limit size : ℕ) (text : List ℕ) (c : Class) (d : ℕ) (ds more : List ℕ)
    → Covers size (length more) (late (suc (suc (length ds))) (brace_before limit text c ds)) (late (suc (suc (length (ds ++ more)))) (brace_before limit text c (ds ++ more)))
brace_covers limit size text class.Bar d ds more =
    let e = length-append ds more in
    late_covers size (suc (suc (length ds))) (suc (suc (length (ds ++ more)))) (length more) kind.Qualified (text ++ codes ".{|") (quoted limit ds) (quoted limit (ds ++ more)) (omega arith) (quoted_grows limit ds more)
brace_covers limit size text _ d ds more = tt

behind_brace_covers : (limit size : ℕ) (text cs more : List ℕ) → Covers size (length more) (late (suc (length cs)) (behind_brace limit text cs)) (late (suc (length (cs ++ more))) (behind_brace limit text (cs ++ more)))
behind_brace_covers limit size text [] more =
    let e : suc (length more) ≡ 1 + length more = omega arith in
    record { inner = behind_brace limit text more; is = ap (λ (i : ℕ). late i (behind_brace limit text more)) e; leaves = inr refl }
behind_brace_covers limit size text (d ∷ ds) more = brace_covers limit size text (class_of d) d ds more

settled_covers : (wild : Bool) (size n : ℕ) (first second : List ℕ) (left : ℕ) (new : Spelling) → Covers size n (second_settled wild first second left) new
settled_covers true size n first second left new = tt
settled_covers false size n first second left new = tt

settled_leaves : (wild : Bool) (first second : List ℕ) (left n : ℕ) → left ≤ n → Leaves n (second_settled wild first second left)
settled_leaves true first second left n le = le
settled_leaves false first second left n le = le

second_stops : (t : Bool) (limit size : ℕ) (first second : List ℕ) (left n m : ℕ) → m ≡ left + n → Covers size n (chosen_second t limit first second left) (chosen_second t limit first second m)
second_stops true limit size first second zero n m e =
    let le : m ≤ n = omega arith in
    grows (up_to_leaves (second_settled (is_wildcard second) first second m) m n (settled_leaves (is_wildcard second) first second m n le))
second_stops true limit size first second (suc left) n m e = settled_covers (is_wildcard second) size n first second (suc left) _
second_stops false limit size first second left n m e = tt

second_runs : (t : Bool) (limit size : ℕ) (first second more : List ℕ) → nat_le (length second) limit ≡ t
    → Covers size (length more) (chosen_second t limit first second 0) (second_spelled limit first (second ++ run_of more) (length (behind_run more)))
second_runs true limit size first second more is = grows (second_leaves limit first second more (leb-true (length second) limit is))
second_runs false limit size first second more is = tt

second_by : (limit size : ℕ) (first new behind old rest more : List ℕ) → Extends new behind old rest more (run_of more) (behind_run more)
    → Covers size (length more) (second_spelled limit first old (length rest)) (second_spelled limit first new (length behind))
second_by limit size first new behind old rest more (inl e) =
    subst (λ (x : List ℕ). Covers size (length more) (second_spelled limit first old (length rest)) (second_spelled limit first x (length behind))) (sym e.0)
    (second_stops (nat_le (length old) limit) limit size first old (length rest) (length more) (length behind) (ap length e.1 ∙ length-append rest more))
second_by limit size first new behind old rest more (inr e) =
    subst (λ (x : List ℕ). Covers size (length more) (second_spelled limit first old (length x)) (second_spelled limit first new (length behind))) (sym e.0)
    (subst (λ (x : List ℕ). Covers size (length more) (second_spelled limit first old 0) (second_spelled limit first x (length behind))) (sym e.1.0)
    (subst (λ (x : List ℕ). Covers size (length more) (second_spelled limit first old 0) (second_spelled limit first (old ++ run_of more) (length x))) (sym e.1.1)
    (second_runs (nat_le (length old) limit) limit size first old more refl)))

dot_by : (limit size : ℕ) (text : List ℕ) (k : Class) (c : ℕ) (cs more : List ℕ) → Covers size (length more) (dot_before limit text k c cs) (dot_before limit text k c (cs ++ more))
dot_by limit size text class.Letter c cs more = second_by limit size text _ _ _ _ more (head_extends c cs more)
dot_by limit size text class.Digit c cs more = second_by limit size text _ _ _ _ more (head_extends c cs more)
dot_by limit size text class.Underscore c cs more = second_by limit size text _ _ _ _ more (head_extends c cs more)
dot_by limit size text class.OpenBrace c cs more = behind_brace_covers limit size text cs more
dot_by limit size text _ c cs more = tt

dot_covers : (limit size : ℕ) (text bs more : List ℕ) → Covers size (length more) (behind_dot limit text bs) (behind_dot limit text (bs ++ more))
dot_covers limit size text [] more = grows (dot_leaves limit text more)
dot_covers limit size text (c ∷ cs) more = dot_by limit size text (class_of c) c cs more

-- ---- names

dotted_covers : (wild : Bool) (limit size : ℕ) (text bs more : List ℕ)
    → Covers size (length more) (if wild then token (kind_of text) text (suc (length bs)) else behind_dot limit text bs) (if wild then token (kind_of text) text (suc (length (bs ++ more))) else behind_dot limit text (bs ++ more))
dotted_covers true limit size text bs more = tt
dotted_covers false limit size text bs more = dot_covers limit size text bs more

run_by : (limit size : ℕ) (text : List ℕ) (k : Class) (bs more : List ℕ) → Covers size (length more) (run_before limit text k bs) (run_before limit text k (bs ++ more))
run_by limit size text class.Dot bs more = dotted_covers (is_wildcard text) limit size text bs more
run_by limit size text _ bs more = tt

rest_covers : (limit size : ℕ) (text rest more : List ℕ) → Covers size (length more) (behind_name limit text rest) (behind_name limit text (rest ++ more))
rest_covers limit size text [] more = grows (behind_name_leaves limit text more)
rest_covers limit size text (b ∷ bs) more = run_by limit size text (class_of b) bs more

name_stops : (t : Bool) (limit size : ℕ) (text rest more : List ℕ) → Covers size (length more) (chosen_name t limit text rest) (chosen_name t limit text (rest ++ more))
name_stops true limit size text rest more = rest_covers limit size text rest more
name_stops false limit size text rest more = tt

name_runs : (t : Bool) (limit size : ℕ) (text more : List ℕ) → nat_le (length text) limit ≡ t → Covers size (length more) (chosen_name t limit text []) (name_spelled limit (text ++ run_of more) (behind_run more))
name_runs true limit size text more is = grows (name_leaves limit text more (leb-true (length text) limit is))
name_runs false limit size text more is = tt

name_by : (limit size : ℕ) (new behind old rest more : List ℕ) → Extends new behind old rest more (run_of more) (behind_run more) → Covers size (length more) (name_spelled limit old rest) (name_spelled limit new behind)
name_by limit size new behind old rest more (inl e) =
    subst (λ (x : List ℕ). Covers size (length more) (name_spelled limit old rest) (name_spelled limit x behind)) (sym e.0)
    (subst (λ (x : List ℕ). Covers size (length more) (name_spelled limit old rest) (name_spelled limit old x)) (sym e.1) (name_stops (nat_le (length old) limit) limit size old rest more))
name_by limit size new behind old rest more (inr e) =
    subst (λ (x : List ℕ). Covers size (length more) (name_spelled limit old x) (name_spelled limit new behind)) (sym e.0)
    (subst (λ (x : List ℕ). Covers size (length more) (name_spelled limit old []) (name_spelled limit x behind)) (sym e.1.0)
    (subst (λ (x : List ℕ). Covers size (length more) (name_spelled limit old []) (name_spelled limit (old ++ run_of more) x)) (sym e.1.1)
    (name_runs (nat_le (length old) limit) limit size old more refl)))

name_covers : (limit size b : ℕ) (bs more : List ℕ) → Covers size (length more) (name_spelled limit (b ∷ run_of bs) (behind_run bs)) (name_spelled limit (b ∷ run_of (bs ++ more)) (behind_run (bs ++ more)))
name_covers limit size b bs more = name_by limit size _ _ _ _ more (head_extends b bs more)

-- ---- words

word_waits : (xs : List ℕ) (left size n : ℕ) (new : Spelling) → (left ≡ 0 → Leaves n new) → Covers size n (word_spelled xs left) new
word_waits [] zero size n new h = grows (h refl)
word_waits [] (suc left) size n new h = tt
word_waits (x ∷ xs) zero size n new h = grows (h refl)
word_waits (x ∷ xs) (suc left) size n new h = tt

word_by : (size : ℕ) (new behind old rest more : List ℕ) → Extends new behind old rest more (letters_of more) (behind_letters more) → Covers size (length more) (word_spelled old (length rest)) (word_spelled new (length behind))
word_by size new behind old rest more (inl e) =
    let n : length behind ≡ length rest + length more = ap length e.1 ∙ length-append rest more in
    word_waits old (length rest) size (length more) _ (λ none. word_leaves new (length behind) (length more) (omega arith))
word_by size new behind old rest more (inr e) =
    let n : length behind ≡ length (behind_letters more) = ap length e.1.1 in
    let m = letters_leave more in
    word_waits old (length rest) size (length more) _ (λ none. word_leaves new (length behind) (length more) (omega arith))

-- ---- signs, comments and quoted names

colon_by : (c : Class) (left size n : ℕ) (new : Spelling) → Covers size n (colon_before c left) new
colon_by class.Equals left size n new = tt
colon_by _ left size n new = tt

colon_covers : (size : ℕ) (bs more : List ℕ) → Covers size (length more) (behind_colon bs) (behind_colon (bs ++ more))
colon_covers size [] more = grows (colon_leaves more)
colon_covers size (c ∷ cs) more = colon_by (class_of c) (length cs) size (length more) _

equals_by : (c : Class) (left size n : ℕ) (new : Spelling) → Covers size n (equals_before c left) new
equals_by class.Greater left size n new = tt
equals_by class.Equals left size n new = tt
equals_by _ left size n new = tt

equals_covers : (size : ℕ) (bs more : List ℕ) → Covers size (length more) (behind_equals bs) (behind_equals (bs ++ more))
equals_covers size [] more = grows (equals_leaves more)
equals_covers size (c ∷ cs) more = equals_by (class_of c) (length cs) size (length more) _

long_by : (c : Class) (left size n : ℕ) (new : Spelling) → Covers size n (long_before c left) new
long_by class.Greater left size n new = tt
long_by _ left size n new = tt

two_covers : (size : ℕ) (bs more : List ℕ) → Covers size (length more) (behind_two_minus bs) (behind_two_minus (bs ++ more))
two_covers size [] more = grows (two_minus_leaves more)
two_covers size (c ∷ cs) more = long_by (class_of c) (length cs) size (length more) _

minus_by : (c : Class) (size : ℕ) (cs more : List ℕ) → Covers size (length more) (minus_before c cs) (minus_before c (cs ++ more))
minus_by class.Greater size cs more = tt
minus_by class.Minus size cs more = two_covers size cs more
minus_by _ size cs more = tt

minus_covers : (size : ℕ) (bs more : List ℕ) → Covers size (length more) (behind_minus bs) (behind_minus (bs ++ more))
minus_covers size [] more = grows (minus_leaves more)
minus_covers size (c ∷ cs) more = minus_by (class_of c) size cs more

blank_covers : (size n k : ℕ) (s new : Spelling) → IsBlank k s → Covers size n s new
blank_covers size n k (unsettled s) new h = absurd h
blank_covers size n k (late m s) new h = absurd h
blank_covers size n k _ new h = tt

bracket_grows : (c : Class) (cs : List ℕ) → Grown 1 (suc (length cs)) (bracket_before c cs)
bracket_grows class.Semicolon cs = opens_comment refl (blank_more (length cs) (suc (length cs)) (comment 1 class.Other cs) (omega arith) (comment_blank 1 class.Other cs))
bracket_grows _ cs = grows (omega arith)

bracket_first : (more : List ℕ) → Grown 1 (length more) (behind_bracket more)
bracket_first [] = grows (omega arith)
bracket_first (c ∷ cs) = bracket_grows (class_of c) cs

bracket_by : (c : Class) (size n : ℕ) (cs : List ℕ) (new : Spelling) → Covers size n (bracket_before c cs) new
bracket_by class.Semicolon size n cs new = blank_covers size n (length cs) (comment 1 class.Other cs) new (comment_blank 1 class.Other cs)
bracket_by _ size n cs new = tt

bracket_covers : (bs more : List ℕ) → Covers (suc (length bs)) (length more) (behind_bracket bs) (behind_bracket (bs ++ more))
bracket_covers [] more = bracket_first more
bracket_covers (c ∷ cs) more = bracket_by (class_of c) (suc (suc (length cs))) (length more) cs _

open_by : (limit : ℕ) (c : Class) (size : ℕ) (cs more : List ℕ) → Covers size (length more) (open_before limit c cs) (open_before limit c (cs ++ more))
open_by limit class.Bar size cs more = quoted_covers size (length more) kind.Quoted (codes "{|") (quoted limit cs) (quoted limit (cs ++ more)) (quoted_grows limit cs more)
open_by limit _ size cs more = tt

open_covers : (limit size : ℕ) (bs more : List ℕ) → Covers size (length more) (behind_open limit bs) (behind_open limit (bs ++ more))
open_covers limit size [] more = grows (open_leaves limit more)
open_covers limit size (c ∷ cs) more = open_by limit (class_of c) size cs more

-- ---- whatever stands at a byte

by_class : (limit : ℕ) (c : Class) (b : ℕ) (bs more : List ℕ) → Covers (suc (length bs)) (length more) (spelled_by limit c b bs) (spelled_by limit c b (bs ++ more))
by_class limit class.Letter b bs more = name_covers limit (suc (length bs)) b bs more
by_class limit class.Digit b bs more = name_covers limit (suc (length bs)) b bs more
by_class limit class.Underscore b bs more = name_covers limit (suc (length bs)) b bs more
by_class limit class.Colon b bs more = colon_covers (suc (length bs)) bs more
by_class limit class.Equals b bs more = equals_covers (suc (length bs)) bs more
by_class limit class.Minus b bs more = minus_covers (suc (length bs)) bs more
by_class limit class.OpenBracket b bs more = bracket_covers bs more
by_class limit class.OpenBrace b bs more = open_covers limit (suc (length bs)) bs more
by_class limit class.Hash b bs more = word_by (suc (length bs)) _ _ _ _ more (letters_extend bs more)
by_class limit _ b bs more = tt

pub front_covers : (limit b : ℕ) (bs more : List ℕ) → Covers (suc (length bs)) (length more) (spelled_front limit (b ∷ bs)) (spelled_front limit (b ∷ (bs ++ more)))
front_covers limit b bs more = by_class limit (class_of b) b bs more
