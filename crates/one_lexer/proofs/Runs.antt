-- A run and the dot behind it: two tokens, one after the other.
use Rattle.std.proofs.Common.{◌≡◌, ◌≤◌, ℕ, zero, suc, ◌+◌, ◌-◌, Bool, true, false, nat_le, List, [], ◌∷◌, ◌++◌, length, codes, if◌then◌else◌, refl, sym, ap, subst, ◌∙◌, arith, length-append, append_assoc}
use Rattle.std.specs.Prelude.{Option, Some, None}
use Rattle.dk_model.specs.declared.code.Code.TheVariants.{E05}
use Rattle.dk_model.specs.declared.limits.Limits.{Limits}
use Rattle.dk_lexer.specs.declared.class.Class.{Class}
use Rattle.dk_lexer.specs.declared.class.Class.TheVariants as class
use Rattle.dk_lexer.specs.declared.token.Token.{Token}
use Rattle.dk_lexer.specs.declared.token.TokenKind.{TokenKind}
use Rattle.dk_lexer.specs.declared.token.TokenKind.TheVariants as kind
use Rattle.dk_lexer.specs.declared.token.Sign.TheVariants as sign
use Rattle.dk_lexer.specs.declared.place.Place.{Place}
use Rattle.dk_lexer.specs.Classes.{class_of, in_name}
use Rattle.one_lexer.specs.Places.{place_behind}
use Rattle.dk_lexer.specs.Spelling.{Spelling, token, wrong, run_and_dot, unsettled, late, Quoted, closed, faulty, open_ended, behind_brace, behind_colon, behind_dot, behind_equals, behind_letters, behind_minus, behind_name, behind_open, behind_run, behind_two_minus, bracket_before, behind_bracket, brace_before, colon_before, comment, dot_before, equals_before, is_wildcard, kind_of, letters_of, long_before, minus_before, name_spelled, open_before, quoted, quoted_spelled, run_before, run_of, second_settled, second_spelled, spelled, spelled_by, up_to, word_spelled}
use Rattle.dk_lexer.specs.Tokens.{Ending, Lexed, begin_of, behind, bound, dot_at, gives, outcome_at, token_at, tokens_from}
use Rattle.dk_lexer.proofs.Outcomes.{begins, within_true}
use Rattle.one_lexer.proofs.Leaves.{comment_blank}
use Rattle.dk_lexer.proofs.Bounds.{behind_name_byte}
use Rattle.one_lexer.proofs.Leaves.{IsBlank}
use Rattle.one_lexer.specs.Bounds.{LateFits, front_bound}
use Rattle.one_lexer.specs.Reading.{Reads, adds, setting_at}
use Rattle.one_lexer.specs.Views.{late_by, settled_by, spelled_front}
use Rattle.one_lexer.proofs.Bytes.{is_dot}
use Rattle.one_lexer.proofs.Reading.{Gives, adds_gives, skip_all}

-- ---- where a run with its dot stands

-- the text is this run, behind it stands the dot, and so many bytes are left behind that
pub record There (run rest text : List ℕ) (left : ℕ) : Type 0 where
  pub more : List ℕ
  pub text_is : text ≡ run
  pub rest_is : rest ≡ 46 ∷ more
  pub left_is : left ≡ length more

-- a token or a fault, of a run and its dot with the brace behind
abbrev pub StandsBy : ℕ → Spelling → Type 0
StandsBy m (run_and_dot text left) = m ≡ left
StandsBy m (token kind text left) = Unit {0}
StandsBy m (wrong code left) = Unit {0}
StandsBy m _ = ⊥

-- the same, or what isn't settled yet
abbrev pub BraceIs : ℕ → Spelling → Type 0
BraceIs m (unsettled s) = StandsBy m s
BraceIs m s = StandsBy m s

abbrev pub RunAt : List ℕ → List ℕ → Spelling → Type 0
RunAt run rest (run_and_dot text left) = There run rest text left
RunAt run rest (unsettled s) = RunAt run rest s
RunAt run rest (late m s) = RunAt run rest s × BraceIs m s
RunAt run rest _ = Unit {0}

there : (run cs : List ℕ) (left : ℕ) → left ≡ length cs → There run (46 ∷ cs) run left
there run cs left e = record { more = cs; text_is = refl; rest_is = refl; left_is = e }

up_to_run : (run rest : List ℕ) (s : Spelling) (left : ℕ) → RunAt run rest s → RunAt run rest (up_to s left)
up_to_run run rest s zero h = h
up_to_run run rest s (suc left) h = h

choice_run : (t : Bool) (run rest : List ℕ) (x y : Spelling) → RunAt run rest x → RunAt run rest y → RunAt run rest (if t then x else y)
choice_run true run rest x y p q = p
choice_run false run rest x y p q = q

settled_run : (t : Bool) (run rest first second : List ℕ) (left : ℕ) → RunAt run rest (second_settled t first second left)
settled_run true run rest first second left = tt
settled_run false run rest first second left = tt

second_run : (limit : ℕ) (run rest first second : List ℕ) (left : ℕ) → RunAt run rest (second_spelled limit first second left)
second_run limit run rest first second left =
    choice_run (nat_le (length second) limit) run rest (up_to (second_settled (is_wildcard second) first second left) left) (wrong E05 ((length second - limit) + left)) (up_to_run run rest (second_settled (is_wildcard second) first second left) left (settled_run (is_wildcard second) run rest first second left)) tt

quoted_run : (run rest : List ℕ) (kind : TokenKind) (text : List ℕ) (q : Quoted) → RunAt run rest (quoted_spelled kind text q)
quoted_run run rest kind text (closed body left) = tt
quoted_run run rest kind text (faulty code left) = tt
quoted_run run rest kind text open_ended = tt

quoted_brace : (m : ℕ) (kind : TokenKind) (text : List ℕ) (q : Quoted) → BraceIs m (quoted_spelled kind text q)
quoted_brace m kind text (closed body left) = tt
quoted_brace m kind text (faulty code left) = tt
quoted_brace m kind text open_ended = tt

brace_by : (limit : ℕ) (run : List ℕ) (c d : ℕ) (k : Class) (ds : List ℕ) → RunAt run (46 ∷ c ∷ d ∷ ds) (brace_before limit run k ds) × BraceIs (suc (suc (length ds))) (brace_before limit run k ds)
brace_by limit run c d class.Bar ds = (quoted_run _ _ kind.Qualified (run ++ codes ".{|") (quoted limit ds), quoted_brace _ kind.Qualified (run ++ codes ".{|") (quoted limit ds))
brace_by limit run c d _ ds = (there run (c ∷ d ∷ ds) (suc (suc (length ds))) refl, refl)

brace_run : (limit : ℕ) (run : List ℕ) (c : ℕ) (cs : List ℕ) → RunAt run (46 ∷ c ∷ cs) (behind_brace limit run cs) × BraceIs (suc (length cs)) (behind_brace limit run cs)
brace_run limit run c [] = (there run (c ∷ []) 1 refl, refl)
brace_run limit run c (d ∷ ds) = brace_by limit run c d (class_of d) ds

dot_by : (limit : ℕ) (run : List ℕ) (k : Class) (c : ℕ) (cs : List ℕ) → RunAt run (46 ∷ c ∷ cs) (dot_before limit run k c cs)
dot_by limit run class.Letter c cs = second_run limit run (46 ∷ c ∷ cs) run (c ∷ run_of cs) (length (behind_run cs))
dot_by limit run class.Digit c cs = second_run limit run (46 ∷ c ∷ cs) run (c ∷ run_of cs) (length (behind_run cs))
dot_by limit run class.Underscore c cs = second_run limit run (46 ∷ c ∷ cs) run (c ∷ run_of cs) (length (behind_run cs))
dot_by limit run class.OpenBrace c cs = brace_run limit run c cs
dot_by limit run _ c cs = there run (c ∷ cs) (suc (length cs)) refl

dot_run : (limit : ℕ) (run cs : List ℕ) → RunAt run (46 ∷ cs) (behind_dot limit run cs)
dot_run limit run [] = there run [] 0 refl
dot_run limit run (c ∷ cs) = dot_by limit run (class_of c) c cs

before_run : (limit : ℕ) (run : List ℕ) (k : Class) (b : ℕ) (bs : List ℕ) → class_of b ≡ k → RunAt run (b ∷ bs) (run_before limit run k bs)
before_run limit run class.Dot b bs is =
    choice_run (is_wildcard run) run (b ∷ bs) (token (kind_of run) run (suc (length bs))) (behind_dot limit run bs) tt
    (subst (λ (x : ℕ). RunAt run (x ∷ bs) (behind_dot limit run bs)) (sym (is_dot b is)) (dot_run limit run bs))
before_run limit run _ b bs is = tt

behind_name_run : (limit : ℕ) (run rest : List ℕ) → RunAt run rest (behind_name limit run rest)
behind_name_run limit run [] = tt
behind_name_run limit run (b ∷ bs) = before_run limit run (class_of b) b bs refl

name_run : (limit : ℕ) (run rest : List ℕ) → RunAt run rest (name_spelled limit run rest)
name_run limit run rest = choice_run (nat_le (length run) limit) run rest (behind_name limit run rest) (wrong E05 ((length run - limit) + length rest)) (behind_name_run limit run rest) tt

-- it stands only where a name begins
abbrev pub StartsRun : ℕ → List ℕ → Spelling → Type 0
StartsRun b bs (run_and_dot text left) = (in_name (class_of b) ≡ true) × There (b ∷ run_of bs) (behind_run bs) text left
StartsRun b bs (unsettled s) = StartsRun b bs s
StartsRun b bs (late m s) = StartsRun b bs s × BraceIs m s
StartsRun b bs _ = Unit {0}

starts : (b : ℕ) (bs : List ℕ) (s : Spelling) → in_name (class_of b) ≡ true → RunAt (b ∷ run_of bs) (behind_run bs) s → StartsRun b bs s
starts b bs (run_and_dot text left) named h = (named, h)
starts b bs (unsettled s) named h = starts b bs s named h
starts b bs (late m s) named h = (starts b bs s named h.0, h.1)
starts b bs _ named h = tt

colon_starts : (b : ℕ) (bs : List ℕ) (c : Class) (left : ℕ) → StartsRun b bs (colon_before c left)
colon_starts b bs class.Equals left = tt
colon_starts b bs _ left = tt

equals_starts : (b : ℕ) (bs : List ℕ) (c : Class) (left : ℕ) → StartsRun b bs (equals_before c left)
equals_starts b bs class.Greater left = tt
equals_starts b bs class.Equals left = tt
equals_starts b bs _ left = tt

long_starts : (b : ℕ) (bs : List ℕ) (c : Class) (left : ℕ) → StartsRun b bs (long_before c left)
long_starts b bs class.Greater left = tt
long_starts b bs _ left = tt

two_starts : (b : ℕ) (bs cs : List ℕ) → StartsRun b bs (behind_two_minus cs)
two_starts b bs [] = tt
two_starts b bs (c ∷ cs) = long_starts b bs (class_of c) (length cs)

minus_by : (b : ℕ) (bs : List ℕ) (c : Class) (cs : List ℕ) → StartsRun b bs (minus_before c cs)
minus_by b bs class.Greater cs = tt
minus_by b bs class.Minus cs = two_starts b bs cs
minus_by b bs _ cs = tt

blank_starts : (b : ℕ) (bs : List ℕ) (n : ℕ) (s : Spelling) → IsBlank n s → StartsRun b bs s
blank_starts b bs n (run_and_dot text left) h = absurd h
blank_starts b bs n (unsettled s) h = absurd h
blank_starts b bs n (late m s) h = absurd h
blank_starts b bs n _ h = tt

bracket_by : (b : ℕ) (bs : List ℕ) (c : Class) (cs : List ℕ) → StartsRun b bs (bracket_before c cs)
bracket_by b bs class.Semicolon cs = blank_starts b bs (length cs) (comment 1 class.Other cs) (comment_blank 1 class.Other cs)
bracket_by b bs _ cs = tt

quoted_starts : (b : ℕ) (bs : List ℕ) (kind : TokenKind) (text : List ℕ) (q : Quoted) → StartsRun b bs (quoted_spelled kind text q)
quoted_starts b bs kind text (closed body left) = tt
quoted_starts b bs kind text (faulty code left) = tt
quoted_starts b bs kind text open_ended = tt

open_by : (limit b : ℕ) (bs : List ℕ) (c : Class) (cs : List ℕ) → StartsRun b bs (open_before limit c cs)
open_by limit b bs class.Bar cs = quoted_starts b bs kind.Quoted (codes "{|") (quoted limit cs)
open_by limit b bs _ cs = tt

word_starts : (b : ℕ) (bs xs : List ℕ) (left : ℕ) → StartsRun b bs (word_spelled xs left)
word_starts b bs [] zero = tt
word_starts b bs [] (suc left) = tt
word_starts b bs (x ∷ xs) zero = tt
word_starts b bs (x ∷ xs) (suc left) = tt

behind_colon_starts : (b : ℕ) (bs cs : List ℕ) → StartsRun b bs (behind_colon cs)
behind_colon_starts b bs [] = tt
behind_colon_starts b bs (c ∷ cs) = colon_starts b bs (class_of c) (length cs)

behind_equals_starts : (b : ℕ) (bs cs : List ℕ) → StartsRun b bs (behind_equals cs)
behind_equals_starts b bs [] = tt
behind_equals_starts b bs (c ∷ cs) = equals_starts b bs (class_of c) (length cs)

behind_minus_starts : (b : ℕ) (bs cs : List ℕ) → StartsRun b bs (behind_minus cs)
behind_minus_starts b bs [] = tt
behind_minus_starts b bs (c ∷ cs) = minus_by b bs (class_of c) cs

behind_bracket_starts : (b : ℕ) (bs cs : List ℕ) → StartsRun b bs (behind_bracket cs)
behind_bracket_starts b bs [] = tt
behind_bracket_starts b bs (c ∷ cs) = bracket_by b bs (class_of c) cs

behind_open_starts : (limit b : ℕ) (bs cs : List ℕ) → StartsRun b bs (behind_open limit cs)
behind_open_starts limit b bs [] = tt
behind_open_starts limit b bs (c ∷ cs) = open_by limit b bs (class_of c) cs

name_starts : (limit b : ℕ) (bs : List ℕ) → in_name (class_of b) ≡ true → StartsRun b bs (name_spelled limit (b ∷ run_of bs) (behind_run bs))
name_starts limit b bs named = starts b bs (name_spelled limit (b ∷ run_of bs) (behind_run bs)) named (name_run limit (b ∷ run_of bs) (behind_run bs))

by_class : (limit : ℕ) (k : Class) (b : ℕ) (bs : List ℕ) → class_of b ≡ k → StartsRun b bs (spelled_by limit k b bs)
by_class limit class.Letter b bs is = name_starts limit b bs (ap in_name is)
by_class limit class.Digit b bs is = name_starts limit b bs (ap in_name is)
by_class limit class.Underscore b bs is = name_starts limit b bs (ap in_name is)
by_class limit class.Colon b bs is = behind_colon_starts b bs bs
by_class limit class.Equals b bs is = behind_equals_starts b bs bs
by_class limit class.Minus b bs is = behind_minus_starts b bs bs
by_class limit class.OpenBracket b bs is = behind_bracket_starts b bs bs
by_class limit class.OpenBrace b bs is = behind_open_starts limit b bs bs
by_class limit class.Hash b bs is = word_starts b bs (letters_of bs) (length (behind_letters bs))
by_class limit _ b bs is = tt

pub run_starts : (limit b : ℕ) (bs : List ℕ) → StartsRun b bs (spelled_front limit (b ∷ bs))
run_starts limit b bs = by_class limit (class_of b) b bs refl

-- ---- as the code finds it

brace_same : (m : ℕ) (settled : Bool) (text : List ℕ) (left : ℕ) → BraceIs m (settled_by settled (run_and_dot text left)) → m ≡ left
brace_same m true text left h = h
brace_same m false text left h = h

starts_same : (b : ℕ) (bs : List ℕ) (settled : Bool) (text : List ℕ) (left : ℕ) → StartsRun b bs (settled_by settled (run_and_dot text left)) → StartsRun b bs (run_and_dot text left)
starts_same b bs true text left h = h
starts_same b bs false text left h = h

pub run_found : (b : ℕ) (bs : List ℕ) (settled : Bool) (brace : Option ℕ) (text : List ℕ) (left : ℕ) → StartsRun b bs (late_by brace (settled_by settled (run_and_dot text left))) → StartsRun b bs (run_and_dot text left)
run_found b bs settled None text left h = starts_same b bs settled text left h
run_found b bs settled (Some m) text left h = starts_same b bs settled text left h.0

-- the bytes up to the dot are within the bound of the command
pub run_fits : (limits : Limits) (b begin total : ℕ) (bs : List ℕ) (settled : Bool) (brace : Option ℕ) (text : List ℕ) (left : ℕ) → StartsRun b bs (late_by brace (settled_by settled (run_and_dot text left)))
    → LateFits limits begin total brace → total ≤ (front_bound limits begin total brace).last + left → total ≤ (bound limits (Some begin)).last + left
run_fits limits b begin total bs settled None text left h fits le = le
run_fits limits b begin total bs settled (Some m) text left h fits le =
    let same : m ≡ left = brace_same m settled text left h.1 in
    let at : total ≤ (bound limits (Some begin)).last + m = fits.0 in
    omega arith

-- ---- places

by_run : (t : Bool) (here : Place) (b : ℕ) (bs : List ℕ) → in_name (class_of b) ≡ t → ((p : Place) → place_behind p (run_of bs) ≡ record { offset = p.offset + length (run_of bs); line = p.line })
    → place_behind here (if t then b ∷ run_of bs else []) ≡ record { offset = here.offset + length (if t then b ∷ run_of bs else []); line = here.line }
by_run true here b bs named ih =
    let next = behind_name_byte here b named in
    let o : (here.offset + 1) + length (run_of bs) ≡ here.offset + suc (length (run_of bs)) = omega arith in
    ih (behind here b)
    ∙ ap (λ (p : Place). let q : Place = record { offset = p.offset + length (run_of bs); line = p.line } in q) next
    ∙ ap (λ (n : ℕ). let q : Place = record { offset = n; line = here.line } in q) o
by_run false here b bs named ih = let o : here.offset ≡ here.offset + 0 = omega arith in ap (λ (n : ℕ). let q : Place = record { offset = n; line = here.line } in q) o

-- a run is on one line
pub run_place : (here : Place) (bs : List ℕ) → place_behind here (run_of bs) ≡ record { offset = here.offset + length (run_of bs); line = here.line }
run_place here [] = let o : here.offset ≡ here.offset + 0 = omega arith in ap (λ (n : ℕ). let q : Place = record { offset = n; line = here.line } in q) o
run_place here (b ∷ bs) = by_run (in_name (class_of b)) here b bs refl (λ p. run_place p bs)

head_place : (here : Place) (b : ℕ) (bs : List ℕ) → in_name (class_of b) ≡ true → place_behind here (b ∷ run_of bs) ≡ record { offset = here.offset + length (b ∷ run_of bs); line = here.line }
head_place here b bs named = by_run true here b bs named (λ p. run_place p bs)

place_append : (here : Place) (xs ys : List ℕ) → place_behind here (xs ++ ys) ≡ place_behind (place_behind here xs) ys
place_append here [] ys = refl
place_append here (x ∷ xs) ys = place_append (behind here x) xs ys

by_split : (t : Bool) (b : ℕ) (bs : List ℕ) → run_of bs ++ behind_run bs ≡ bs → (if t then b ∷ run_of bs else []) ++ (if t then behind_run bs else b ∷ bs) ≡ b ∷ bs
by_split true b bs h = ap (λ (x : List ℕ). b ∷ x) h
by_split false b bs h = refl

pub run_split : (bs : List ℕ) → run_of bs ++ behind_run bs ≡ bs
run_split [] = refl
run_split (b ∷ bs) = by_split (in_name (class_of b)) b bs (run_split bs)

-- ---- the dot is read by itself

dot_spelled : (limit : ℕ) (cs : List ℕ) → spelled limit 46 cs ≡ token (kind.Sign sign.Dot) [] (length cs)
unfolding class_of
dot_spelled limit cs = refl

dot_token : (here p : Place) (text : List ℕ) → p ≡ record { offset = here.offset + length text; line = here.line } → token_at p (kind.Sign sign.Dot) [] ≡ dot_at here text
dot_token here p text is = ap (λ (q : Place). token_at q (kind.Sign sign.Dot) []) is

-- reading goes on at a dot
at_dot : (limits : Limits) (e : Ending) (total : ℕ) (p : Place) (begin : ℕ) (cs : List ℕ) → total ≤ (bound limits (Some begin)).last + length cs
    → tokens_from limits e total p (Some begin) (suc (length cs)) (46 ∷ cs) ≡ gives (token_at p (kind.Sign sign.Dot) []) (tokens_from limits e total (behind p 46) None (length cs) cs)
at_dot limits e total p begin cs fits =
    let s = setting_at limits e total p (Some begin) in
    begins limits e total p (Some begin) 46 cs
    ∙ ap (λ (x : Spelling). outcome_at s x (λ c left. tokens_from limits e total (behind p 46) c left cs)) (dot_spelled limits.name_bytes cs)
    ∙ within_true s (bound limits (Some begin)) (length cs) (gives (token_at p (kind.Sign sign.Dot) []) (tokens_from limits e total (behind p 46) None (length cs) cs)) fits

-- a run with its dot: the run is given, and reading goes on at the dot
pub run_comes : (over : Bool) (limits : Limits) (bytes : List ℕ) (ts : List Token) (here : Place) (command : Option ℕ) (b : ℕ) (bs : List ℕ) (brace : Option ℕ) (text : List ℕ) (left : ℕ)
    → length bytes ≡ here.offset + suc (length bs) → Gives over limits bytes ts here command b bs brace (run_and_dot text left)
    → (k : There (b ∷ run_of bs) (behind_run bs) text left) → in_name (class_of b) ≡ true
    → length bytes ≤ (front_bound limits (begin_of command here.offset) (length bytes) brace).last + left
    → length bytes ≤ (bound limits (Some (begin_of command here.offset))).last + left
    → Reads over limits bytes (ts ++ token_at here (kind_of text) text ∷ []) (place_behind here text) (Some (begin_of command here.offset)) (46 ∷ k.more)
run_comes over limits bytes ts here command b bs brace text left size g k named fits own =
    let begin = begin_of command here.offset in
    let cs = k.more in
    let p = place_behind here text in
    let place : p ≡ record { offset = here.offset + length text; line = here.line } =
    ap (place_behind here) k.text_is ∙ head_place here b bs named ∙ ap (λ (x : List ℕ). let q : Place = record { offset = here.offset + length x; line = here.line } in q) (sym k.text_is) in
    let o : p.offset ≡ here.offset + length text = ap (λ (q : Place). q.offset) place in
    let split : bs ≡ run_of bs ++ 46 ∷ cs = sym (run_split bs) ∙ ap (λ (x : List ℕ). run_of bs ++ x) k.rest_is in
    let count : length bs ≡ length (run_of bs) + suc (length cs) = ap length split ∙ length-append (run_of bs) (46 ∷ cs) in
    let size_text : length text ≡ suc (length (run_of bs)) = ap length k.text_is in
    let left_is : left ≡ length cs = k.left_is in
    record {
      total = omega arith;
      onward = λ more e may.
          let n = length-append bytes more in
          let m = length-append cs more in
          let total = length (bytes ++ more) in
          let s = setting_at limits e total here command in
          let run = token_at here (kind_of text) text in
          let next = tokens_from limits e total (behind here b) None (left + length more) (bs ++ more) in
          let same : left + length more ≡ length (cs ++ more) = omega arith in
          let there_split : bs ++ more ≡ (run_of bs ++ 46 ∷ []) ++ (cs ++ more) =
          ap (λ (x : List ℕ). x ++ more) split ∙ append_assoc (run_of bs) (46 ∷ cs) more ∙ sym (append_assoc (run_of bs) (46 ∷ []) (cs ++ more)) in
          let there_place : place_behind (behind here b) (run_of bs ++ 46 ∷ []) ≡ behind p 46 =
          place_append (behind here b) (run_of bs) (46 ∷ []) ∙ ap (λ (x : List ℕ). behind (place_behind here x) 46) (sym k.text_is) in
          let next_is : next ≡ tokens_from limits e total (behind p 46) None (length (cs ++ more)) (cs ++ more) =
          ap (λ i. tokens_from limits e total (behind here b) None i (bs ++ more)) same
          ∙ ap (tokens_from limits e total (behind here b) None (length (cs ++ more))) there_split
          ∙ skip_all limits e total (behind here b) None (length (cs ++ more)) (run_of bs ++ 46 ∷ []) (cs ++ more) (omega arith)
          ∙ ap (λ (q : Place). tokens_from limits e total q None (length (cs ++ more)) (cs ++ more)) there_place in
          g.onward more e may
          ∙ ap (adds ts) (within_true s (front_bound limits begin (length bytes) brace) (left + length more) (gives run (gives (dot_at here text) next)) (omega arith))
          ∙ adds_gives ts run (gives (dot_at here text) next)
          ∙ ap (adds (ts ++ run ∷ [])) (ap (λ (x : Lexed). gives (dot_at here text) x) next_is
          ∙ ap (λ (t : Token). gives t (tokens_from limits e total (behind p 46) None (length (cs ++ more)) (cs ++ more))) (sym (dot_token here p text place))
          ∙ sym (at_dot limits e total p begin (cs ++ more) (omega arith)));
    }
