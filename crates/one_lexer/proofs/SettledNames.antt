-- What is settled stands however the bytes go on: words, names and quoted names.
use Rattle.std.proofs.Common.{inl, inr, ◌≡◌, ◌<◌, ℕ, zero, suc, ◌+◌, ◌-◌, Bool, true, false, nat_le, List, [], ◌∷◌, ◌++◌, length, codes, if◌then◌else◌, refl, sym, ap, subst, ◌∙◌, arith, length-append}
use Rattle.std.specs.Prelude.{◌⊎◌}
use Rattle.std.proofs.lemmas.Bool.Decides.{nat_tests}
use Rattle.dk_model.specs.declared.code.Code.TheVariants.{E01, E05}
use Rattle.dk_lexer.specs.declared.token.TokenKind.{TokenKind}
use Rattle.dk_lexer.specs.declared.token.TokenKind.TheVariants as kind
use Rattle.dk_lexer.specs.declared.token.Sign.TheVariants as sign
use Rattle.dk_lexer.specs.declared.class.Class.{Class}
use Rattle.dk_lexer.specs.declared.class.Class.TheVariants as class
use Rattle.dk_lexer.specs.Classes.{class_of, in_name, is_letter_class}
use Rattle.dk_lexer.specs.Spelling.{Spelling, token, run_and_dot, wrong, late, up_to, run_of, behind_run, letters_of, behind_letters, is_wildcard, kind_of, word_spelled, second_settled, second_spelled, dot_before, behind_dot, brace_before, behind_brace, run_before, behind_name, name_spelled, Quoted, closed, faulty, open_ended, one_more, too_long, bar_before, behind_bar, behind_last_bar, quoted_byte, last_byte, quoted, quoted_spelled, open_before, behind_open, sign_spelled}
use Rattle.one_lexer.specs.Settled.{is_settled, with_more, quoted_more, is_ended}
use Rattle.one_lexer.proofs.Settled.{GoesOnFrom, more_length}

-- ---- a run and what is behind it, with more bytes: it stops before them, or goes on over them

abbrev pub Extends : (new behind old rest more more_run more_behind : List ℕ) → Type 0
Extends new behind old rest more more_run more_behind = ((new ≡ old) × (behind ≡ rest ++ more)) ⊎ ((rest ≡ []) × ((new ≡ old ++ more_run) × (behind ≡ more_behind)))

run_by : (t : Bool) (b : ℕ) (bs more : List ℕ) → Extends (run_of (bs ++ more)) (behind_run (bs ++ more)) (run_of bs) (behind_run bs) more (run_of more) (behind_run more)
    → Extends (if t then b ∷ run_of (bs ++ more) else []) (if t then behind_run (bs ++ more) else b ∷ (bs ++ more)) (if t then b ∷ run_of bs else []) (if t then behind_run bs else b ∷ bs) more (run_of more) (behind_run more)
run_by true b bs more (inl h) = inl (ap (λ (x : List ℕ). b ∷ x) h.0, h.1)
run_by true b bs more (inr h) = inr (h.0, (ap (λ (x : List ℕ). b ∷ x) h.1.0, h.1.1))
run_by false b bs more h = inl (refl, refl)

run_extends : (bs more : List ℕ) → Extends (run_of (bs ++ more)) (behind_run (bs ++ more)) (run_of bs) (behind_run bs) more (run_of more) (behind_run more)
run_extends [] more = inr (refl, (refl, refl))
run_extends (b ∷ bs) more = run_by (in_name (class_of b)) b bs more (run_extends bs more)

letters_by : (t : Bool) (b : ℕ) (bs more : List ℕ) → Extends (letters_of (bs ++ more)) (behind_letters (bs ++ more)) (letters_of bs) (behind_letters bs) more (letters_of more) (behind_letters more)
    → Extends (if t then b ∷ letters_of (bs ++ more) else []) (if t then behind_letters (bs ++ more) else b ∷ (bs ++ more)) (if t then b ∷ letters_of bs else []) (if t then behind_letters bs else b ∷ bs) more (letters_of more) (behind_letters more)
letters_by true b bs more (inl h) = inl (ap (λ (x : List ℕ). b ∷ x) h.0, h.1)
letters_by true b bs more (inr h) = inr (h.0, (ap (λ (x : List ℕ). b ∷ x) h.1.0, h.1.1))
letters_by false b bs more h = inl (refl, refl)

pub letters_extend : (bs more : List ℕ) → Extends (letters_of (bs ++ more)) (behind_letters (bs ++ more)) (letters_of bs) (behind_letters bs) more (letters_of more) (behind_letters more)
letters_extend [] more = inr (refl, (refl, refl))
letters_extend (b ∷ bs) more = letters_by (is_letter_class (class_of b)) b bs more (letters_extend bs more)

count_by : (t : Bool) (b : ℕ) (bs : List ℕ) → length (run_of bs) + length (behind_run bs) ≡ length bs → length (if t then b ∷ run_of bs else []) + length (if t then behind_run bs else b ∷ bs) ≡ suc (length bs)
count_by true b bs h = omega arith
count_by false b bs h = omega arith

run_count : (bs : List ℕ) → length (run_of bs) + length (behind_run bs) ≡ length bs
run_count [] = refl
run_count (b ∷ bs) = count_by (in_name (class_of b)) b bs (run_count bs)

-- ---- words

word_goes : (xs : List ℕ) (left n m : ℕ) → m ≡ left + n → GoesOnFrom (word_spelled xs m) n (word_spelled xs left)
word_goes [] zero n m e h = cc
word_goes [] (suc left) n m e h =
    let f : m ≡ suc (left + n) = omega arith in
    let g : suc (left + n) ≡ suc left + n = omega arith in
    ap (λ k. up_to (wrong E01 k) k) f ∙ ap (wrong E01) g
word_goes (x ∷ xs) zero n m e h = cc
word_goes (x ∷ xs) (suc left) n m e h =
    let f : m ≡ suc (left + n) = omega arith in
    let g : suc (left + n) ≡ suc left + n = omega arith in
    ap (λ k. up_to (token kind.Profile (35 ∷ x ∷ xs) k) k) f ∙ ap (token kind.Profile (35 ∷ x ∷ xs)) g

word_none : (xs : List ℕ) → is_settled (word_spelled xs 0) ≡ true → ⊥
word_none [] h = cc
word_none (x ∷ xs) h = cc

word_by : (new behind old rest more more_run more_behind : List ℕ) → Extends new behind old rest more more_run more_behind → GoesOnFrom (word_spelled new (length behind)) (length more) (word_spelled old (length rest))
word_by new behind old rest more more_run more_behind (inl e) h =
    ap (λ (x : List ℕ). word_spelled x (length behind)) e.0 ∙ word_goes old (length rest) (length more) (length behind) (ap length e.1 ∙ length-append rest more) h
word_by new behind old rest more more_run more_behind (inr e) h =
    absurd (word_none old (subst (λ (x : List ℕ). is_settled (word_spelled old (length x)) ≡ true) e.0 h))

pub word_stays : (bs more : List ℕ) → GoesOnFrom (word_spelled (letters_of (bs ++ more)) (length (behind_letters (bs ++ more)))) (length more) (word_spelled (letters_of bs) (length (behind_letters bs)))
word_stays bs more h = word_by _ _ _ _ more _ _ (letters_extend bs more) h

-- ---- quoted names

one_more_on : (b n : ℕ) (old new : Quoted) → (is_ended old ≡ true → new ≡ quoted_more n old) → is_ended (one_more b old) ≡ true → one_more b new ≡ quoted_more n (one_more b old)
one_more_on b n (closed body left) new ih h = ap (one_more b) (ih refl)
one_more_on b n (faulty code left) new ih h = ap (one_more b) (ih refl)
one_more_on b n open_ended new ih h = cc

long_on : (c : Class) (left n m : ℕ) → m ≡ left + n → too_long c m ≡ quoted_more n (too_long c left)
long_on class.Newline left n m e = ap (faulty E01) e
long_on _ left n m e = ap (faulty E05) e

bar_on : (c : Class) (left n m : ℕ) (old new : Quoted) → m ≡ left + n → (is_ended old ≡ true → new ≡ quoted_more n old) → is_ended (bar_before c left old) ≡ true → bar_before c m new ≡ quoted_more n (bar_before c left old)
bar_on class.CloseBrace left n m old new e ih h = ap (closed []) e
bar_on _ left n m old new e ih h = ih h

behind_bar_on : (bs more : List ℕ) (old new : Quoted) → (is_ended old ≡ true → new ≡ quoted_more (length more) old) → is_ended (behind_bar bs old) ≡ true → behind_bar (bs ++ more) new ≡ quoted_more (length more) (behind_bar bs old)
behind_bar_on [] more old new ih h = cc
behind_bar_on (c ∷ cs) more old new ih h = bar_on (class_of c) (length cs) (length more) (length (cs ++ more)) old new (length-append cs more) ih h

last_bar_on : (bs more : List ℕ) → is_ended (behind_last_bar bs) ≡ true → behind_last_bar (bs ++ more) ≡ quoted_more (length more) (behind_last_bar bs)
last_bar_on [] more h = cc
last_bar_on (c ∷ cs) more h =
    bar_on (class_of c) (length cs) (length more) (length (cs ++ more)) _ _ (length-append cs more)
    (λ _. long_on (class_of c) (suc (length cs)) (length more) (suc (length (cs ++ more))) (more_length cs more)) h

last_on : (c : Class) (bs more : List ℕ) → is_ended (last_byte c bs) ≡ true → last_byte c (bs ++ more) ≡ quoted_more (length more) (last_byte c bs)
last_on class.Bar bs more h = last_bar_on bs more h
last_on class.Newline bs more h = ap (faulty E01) (more_length bs more)
last_on _ bs more h = ap (faulty E05) (more_length bs more)

byte_on : (c : Class) (b : ℕ) (bs more : List ℕ) (old new : Quoted) → (is_ended old ≡ true → new ≡ quoted_more (length more) old) → is_ended (quoted_byte c b bs old) ≡ true → quoted_byte c b (bs ++ more) new ≡ quoted_more (length more) (quoted_byte c b bs old)
byte_on class.Newline b bs more old new ih h = ap (faulty E01) (more_length bs more)
byte_on class.Bar b bs more old new ih h = behind_bar_on bs more (one_more 124 old) (one_more 124 new) (one_more_on 124 (length more) old new ih) h
byte_on _ b bs more old new ih h = one_more_on b (length more) old new ih h

quoted_on : (room : ℕ) (bs more : List ℕ) → is_ended (quoted room bs) ≡ true → quoted room (bs ++ more) ≡ quoted_more (length more) (quoted room bs)
quoted_on room [] more h = cc
quoted_on zero (b ∷ bs) more h = last_on (class_of b) bs more h
quoted_on (suc room) (b ∷ bs) more h = byte_on (class_of b) b bs more (quoted room bs) (quoted room (bs ++ more)) (quoted_on room bs more) h

spelled_on : (kind : TokenKind) (text : List ℕ) (n : ℕ) (old new : Quoted) → (is_ended old ≡ true → new ≡ quoted_more n old) → GoesOnFrom (quoted_spelled kind text new) n (quoted_spelled kind text old)
spelled_on kind text n (closed body left) new ih h = ap (quoted_spelled kind text) (ih refl)
spelled_on kind text n (faulty code left) new ih h = ap (quoted_spelled kind text) (ih refl)
spelled_on kind text n open_ended new ih h = cc

open_goes : (limit : ℕ) (c : Class) (cs more : List ℕ) → GoesOnFrom (open_before limit c (cs ++ more)) (length more) (open_before limit c cs)
open_goes limit class.Bar cs more h = spelled_on kind.Quoted (codes "{|") (length more) (quoted limit cs) (quoted limit (cs ++ more)) (quoted_on limit cs more) h
open_goes limit _ cs more h = ap (sign_spelled sign.OpenBrace) (more_length cs more)

pub open_stays : (limit : ℕ) (bs more : List ℕ) → GoesOnFrom (behind_open limit (bs ++ more)) (length more) (behind_open limit bs)
open_stays limit [] more h = cc
open_stays limit (c ∷ cs) more h = open_goes limit (class_of c) cs more h

-- ---- second parts

brace_goes : (limit : ℕ) (text : List ℕ) (c : Class) (ds more : List ℕ) → GoesOnFrom (brace_before limit text c (ds ++ more)) (length more) (brace_before limit text c ds)
brace_goes limit text class.Bar ds more h = spelled_on kind.Qualified (text ++ codes ".{|") (length more) (quoted limit ds) (quoted limit (ds ++ more)) (quoted_on limit ds more) h
brace_goes limit text _ ds more h = let e = length-append ds more in let f : suc (suc (length (ds ++ more))) ≡ suc (suc (length ds)) + length more = omega arith in ap (run_and_dot text) f

brace_stays : (limit : ℕ) (text bs more : List ℕ) → GoesOnFrom (behind_brace limit text (bs ++ more)) (length more) (behind_brace limit text bs)
brace_stays limit text [] more h = cc
brace_stays limit text (d ∷ ds) more h = brace_goes limit text (class_of d) ds more h

settled_goes : (wild : Bool) (first second : List ℕ) (left n m : ℕ) → m ≡ left + n → GoesOnFrom (up_to (second_settled wild first second m) m) n (up_to (second_settled wild first second left) left)
settled_goes wild first second zero n m e h = cc
settled_goes true first second (suc left) n m e h =
    let f : m ≡ suc (left + n) = omega arith in
    let g : suc (left + n) ≡ suc left + n = omega arith in
    ap (λ k. up_to (second_settled true first second k) k) f ∙ ap (wrong E01) g
settled_goes false first second (suc left) n m e h =
    let f : m ≡ suc (left + n) = omega arith in
    let g : suc (left + n) ≡ suc left + n = omega arith in
    ap (λ k. up_to (second_settled false first second k) k) f ∙ ap (token kind.Qualified (first ++ 46 ∷ second)) g

le_false : (a b : ℕ) → b < a → nat_le a b ≡ false
le_false a b h = grind (arith, nat_tests)

false_lt : (a b : ℕ) → nat_le a b ≡ false → b < a
false_lt a b h = grind (arith, nat_tests)

abbrev pub chosen_second : Bool → ℕ → List ℕ → List ℕ → ℕ → Spelling
chosen_second t limit first second left = if t then up_to (second_settled (is_wildcard second) first second left) left else wrong E05 ((length second - limit) + left)

second_stops : (t : Bool) (limit : ℕ) (first second : List ℕ) (left n m : ℕ) → m ≡ left + n → GoesOnFrom (chosen_second t limit first second m) n (chosen_second t limit first second left)
second_stops true limit first second left n m e h = settled_goes (is_wildcard second) first second left n m e h
second_stops false limit first second left n m e h = let f : (length second - limit) + m ≡ ((length second - limit) + left) + n = omega arith in ap (wrong E05) f

-- a run that is too long already, and goes on
second_long : (t : Bool) (limit : ℕ) (first second more : List ℕ) → nat_le (length second) limit ≡ t → GoesOnFrom (second_spelled limit first (second ++ run_of more) (length (behind_run more))) (length more) (chosen_second t limit first second 0)
second_long true limit first second more is h = cc
second_long false limit first second more is h =
    let lt = false_lt (length second) limit is in
    let count = run_count more in
    let both = length-append second (run_of more) in
    let over : nat_le (length (second ++ run_of more)) limit ≡ false = le_false (length (second ++ run_of more)) limit (omega arith) in
    let f : (length (second ++ run_of more) - limit) + length (behind_run more) ≡ ((length second - limit) + 0) + length more = omega arith in
    ap (λ (t : Bool). chosen_second t limit first (second ++ run_of more) (length (behind_run more))) over ∙ ap (wrong E05) f

second_by : (limit : ℕ) (first new behind old rest more : List ℕ) → Extends new behind old rest more (run_of more) (behind_run more) → GoesOnFrom (second_spelled limit first new (length behind)) (length more) (second_spelled limit first old (length rest))
second_by limit first new behind old rest more (inl e) h =
    ap (λ (x : List ℕ). second_spelled limit first x (length behind)) e.0
    ∙ second_stops (nat_le (length old) limit) limit first old (length rest) (length more) (length behind) (ap length e.1 ∙ length-append rest more) h
second_by limit first new behind old rest more (inr e) h =
    let h0 : is_settled (second_spelled limit first old 0) ≡ true = subst (λ (x : List ℕ). is_settled (second_spelled limit first old (length x)) ≡ true) e.0 h in
    ap (λ (x : List ℕ). second_spelled limit first x (length behind)) e.1.0
    ∙ ap (λ (x : List ℕ). second_spelled limit first (old ++ run_of more) (length x)) e.1.1
    ∙ second_long (nat_le (length old) limit) limit first old more refl h0
    ∙ ap (λ (x : List ℕ). with_more (length more) (second_spelled limit first old (length x))) (sym e.0)

-- a run from its first byte on
pub head_extends : (b : ℕ) (bs more : List ℕ) → Extends (b ∷ run_of (bs ++ more)) (behind_run (bs ++ more)) (b ∷ run_of bs) (behind_run bs) more (run_of more) (behind_run more)
head_extends b bs more = run_by true b bs more (run_extends bs more)

second_stays : (limit : ℕ) (first : List ℕ) (c : ℕ) (cs more : List ℕ) → GoesOnFrom (second_spelled limit first (c ∷ run_of (cs ++ more)) (length (behind_run (cs ++ more)))) (length more) (second_spelled limit first (c ∷ run_of cs) (length (behind_run cs)))
second_stays limit first c cs more h = second_by limit first _ _ _ _ more (head_extends c cs more) h

dot_goes : (limit : ℕ) (text : List ℕ) (k : Class) (c : ℕ) (cs more : List ℕ) → GoesOnFrom (dot_before limit text k c (cs ++ more)) (length more) (dot_before limit text k c cs)
dot_goes limit text class.Letter c cs more h = second_stays limit text c cs more h
dot_goes limit text class.Digit c cs more h = second_stays limit text c cs more h
dot_goes limit text class.Underscore c cs more h = second_stays limit text c cs more h
dot_goes limit text class.OpenBrace c cs more h =
    ap (λ k. late k (behind_brace limit text (cs ++ more))) (more_length cs more)
    ∙ ap (late (suc (length cs) + length more)) (brace_stays limit text cs more h)
dot_goes limit text _ c cs more h = ap (run_and_dot text) (more_length cs more)

dot_stays : (limit : ℕ) (text bs more : List ℕ) → GoesOnFrom (behind_dot limit text (bs ++ more)) (length more) (behind_dot limit text bs)
dot_stays limit text [] more h = cc
dot_stays limit text (c ∷ cs) more h = dot_goes limit text (class_of c) c cs more h

-- ---- names

dotted_goes : (wild : Bool) (limit : ℕ) (text bs more : List ℕ)
    → GoesOnFrom (if wild then token (kind_of text) text (suc (length (bs ++ more))) else behind_dot limit text (bs ++ more)) (length more) (if wild then token (kind_of text) text (suc (length bs)) else behind_dot limit text bs)
dotted_goes true limit text bs more h = ap (token (kind_of text) text) (more_length bs more)
dotted_goes false limit text bs more h = dot_stays limit text bs more h

run_goes : (limit : ℕ) (text : List ℕ) (c : Class) (bs more : List ℕ) → GoesOnFrom (run_before limit text c (bs ++ more)) (length more) (run_before limit text c bs)
run_goes limit text class.Dot bs more h = dotted_goes (is_wildcard text) limit text bs more h
run_goes limit text _ bs more h = ap (token (kind_of text) text) (more_length bs more)

name_stays : (limit : ℕ) (text rest more : List ℕ) → GoesOnFrom (behind_name limit text (rest ++ more)) (length more) (behind_name limit text rest)
name_stays limit text [] more h = cc
name_stays limit text (b ∷ bs) more h = run_goes limit text (class_of b) bs more h

abbrev pub chosen_name : Bool → ℕ → List ℕ → List ℕ → Spelling
chosen_name t limit text rest = if t then behind_name limit text rest else wrong E05 ((length text - limit) + length rest)

name_stops : (t : Bool) (limit : ℕ) (text rest more : List ℕ) → GoesOnFrom (chosen_name t limit text (rest ++ more)) (length more) (chosen_name t limit text rest)
name_stops true limit text rest more h = name_stays limit text rest more h
name_stops false limit text rest more h =
    let e = length-append rest more in
    let f : (length text - limit) + length (rest ++ more) ≡ ((length text - limit) + length rest) + length more = omega arith in
    ap (wrong E05) f

name_long : (t : Bool) (limit : ℕ) (text more : List ℕ) → nat_le (length text) limit ≡ t → GoesOnFrom (name_spelled limit (text ++ run_of more) (behind_run more)) (length more) (chosen_name t limit text [])
name_long true limit text more is h = cc
name_long false limit text more is h =
    let lt = false_lt (length text) limit is in
    let count = run_count more in
    let both = length-append text (run_of more) in
    let over : nat_le (length (text ++ run_of more)) limit ≡ false = le_false (length (text ++ run_of more)) limit (omega arith) in
    let f : (length (text ++ run_of more) - limit) + length (behind_run more) ≡ ((length text - limit) + 0) + length more = omega arith in
    ap (λ (t : Bool). chosen_name t limit (text ++ run_of more) (behind_run more)) over ∙ ap (wrong E05) f

name_by : (limit : ℕ) (new behind old rest more : List ℕ) → Extends new behind old rest more (run_of more) (behind_run more) → GoesOnFrom (name_spelled limit new behind) (length more) (name_spelled limit old rest)
name_by limit new behind old rest more (inl e) h =
    ap (λ (x : List ℕ). name_spelled limit x behind) e.0 ∙ ap (name_spelled limit old) e.1 ∙ name_stops (nat_le (length old) limit) limit old rest more h
name_by limit new behind old rest more (inr e) h =
    let h0 : is_settled (name_spelled limit old []) ≡ true = subst (λ (x : List ℕ). is_settled (name_spelled limit old x) ≡ true) e.0 h in
    ap (λ (x : List ℕ). name_spelled limit x behind) e.1.0
    ∙ ap (name_spelled limit (old ++ run_of more)) e.1.1
    ∙ name_long (nat_le (length old) limit) limit old more refl h0
    ∙ ap (λ (x : List ℕ). with_more (length more) (name_spelled limit old x)) (sym e.0)

pub run_stays : (limit b : ℕ) (bs more : List ℕ) → GoesOnFrom (name_spelled limit (b ∷ run_of (bs ++ more)) (behind_run (bs ++ more))) (length more) (name_spelled limit (b ∷ run_of bs) (behind_run bs))
run_stays limit b bs more h = name_by limit _ _ _ _ more (head_extends b bs more) h
