-- The tokens of some bytes behind others are those of these bytes alone, moved, as long as all are within the bound of the input.
use Rattle.std.proofs.Common.{ℕ, ◌+◌, ◌≡◌, ◌≤◌, ◌<◌, min, Bool, true, false, nat_le, nat_lt, ◌==◌, List, [], ◌∷◌, ◌++◌, length, map, Option, Some, None, refl, ap, sym, ◌∙◌, arith, if◌then◌else◌}
use Rattle.std.proofs.lemmas.Bool.Decides.{nat_tests}
use Rattle.dk_model.specs.declared.code.Code.{Code}
use Rattle.dk_model.specs.declared.code.Code.TheVariants.{E03, E05, E07}
use Rattle.dk_model.specs.declared.limits.Limits.{Limits}
use Rattle.dk_lexer.specs.declared.token.Token.{Token}
use Rattle.dk_lexer.specs.declared.token.TokenKind.{TokenKind}
use Rattle.dk_lexer.specs.declared.token.TokenKind.TheVariants as kind
use Rattle.dk_lexer.specs.declared.token.Sign.TheVariants as sign
use Rattle.dk_lexer.specs.declared.place.Place.{Place}
use Rattle.dk_lexer.specs.Spelling.{Spelling, blank, token, run_and_dot, wrong, comment_open, unsettled, late, kind_of, spelled}
use Rattle.dk_lexer.specs.Tokens.{Ending, whole, broken, Lexed, Bound, Setting, at_end, begin_of, behind, bound, by_bound, command_after, command_limit, dot_at, fault_at, gives, input_limit, late_bound, nearer, next_line, nothing_at, outcome, outcome_at, token_at, tokens, tokens_from, within}
use Rattle.dk_lexer.proofs.Outcomes.{le_false, le_true, lt_true}
use Rattle.one_lexer.specs.Reading.{Reads, adds}
use Rattle.one_lexer.proofs.Reading.{same_test}
use Rattle.text_law.proofs.Stands.{KeepsBrace, keeps_brace}

abbrev pub moved_place : ℕ → ℕ → Place → Place
moved_place D L here = record { offset = here.offset + D; line = here.line + L }

abbrev pub moved_begin : ℕ → Option ℕ → Option ℕ
moved_begin D None = None
moved_begin D (Some begin) = Some (begin + D)

abbrev pub moved_token : ℕ → ℕ → Token → Token
moved_token D L t = record { kind = t.kind; spelling = t.spelling; offset = t.offset + D; line = t.line + L }

abbrev pub moved : ℕ → ℕ → Lexed → Lexed
moved D L x = record { tokens = map (moved_token D L) x.tokens; fault = x.fault; line = x.line + L }

-- ---- bounds

-- within two bounds are the same bytes, where those of the second are moved, and the fault behind them is the same
record Moves (D total : ℕ) (bd md : Bound) : Type 0 where
  pub tests : (left : ℕ) → nat_le (total + D) (md.last + left) ≡ nat_le total (bd.last + left)
  pub codes : (left : ℕ) → nat_le total (bd.last + left) ≡ false → md.code ≡ bd.code

le_moves : (a b c d D : ℕ) → c ≡ a + D → d ≡ b + D → nat_le c d ≡ nat_le a b
le_moves a b c d D e f = by (nat_le a b) refl
  where
    by : (t : Bool) → nat_le a b ≡ t → nat_le c d ≡ nat_le a b
    by true h = le_true c d (let g : a ≤ b = grind (arith, nat_tests, h) in omega arith) ∙ sym h
    by false h = le_false c d (let g : b < a = grind (arith, nat_tests, h) in omega arith) ∙ sym h

-- all bytes are within both
all_within : (D total : ℕ) (bd md : Bound) → total ≤ bd.last → total + D ≤ md.last → Moves D total bd md
all_within D total bd md h k = record {
  tests = λ left. le_true (total + D) (md.last + left) (omega arith) ∙ sym (le_true total (bd.last + left) (omega arith));
  codes = λ left e. absurd (let g : true ≡ false = sym (le_true total (bd.last + left) (omega arith)) ∙ e in cc);
}

abbrev bound_by : Bool → ℕ → ℕ → Bound
bound_by t command input = if t then record { last = command; code = E05 } else record { last = input; code = E07 }

nearer_by : (t u : Bool) (D total c d i : ℕ) → total + D ≤ i → d ≡ c + D → nat_le c i ≡ t → nat_le d i ≡ u → Moves D total (bound_by t c i) (bound_by u d i)
nearer_by true true D total c d i f e p q = record { tests = λ left. le_moves total (c + left) (total + D) (d + left) D refl (omega arith); codes = λ left h. refl }
nearer_by true false D total c d i f e p q = all_within D total _ _ (let g : i < d = grind (arith, nat_tests, q) in omega arith) f
nearer_by false true D total c d i f e p q = absurd (let g : i < c = grind (arith, nat_tests, p) in let h : d ≤ i = grind (arith, nat_tests, q) in omega arith)
nearer_by false false D total c d i f e p q = all_within D total _ _ (omega arith) f

nearer_moves : (D total c d i : ℕ) → total + D ≤ i → d ≡ c + D → Moves D total (nearer c i) (nearer d i)
nearer_moves D total c d i f e = nearer_by (nat_le c i) (nat_le d i) D total c d i f e refl refl

-- a dot ends its command
after_moves : (k : TokenKind) (begin D : ℕ) → command_after k (begin + D) ≡ moved_begin D (command_after k begin)
after_moves (kind.Sign sign.Dot) begin D = refl
after_moves (kind.Sign s) begin D = refl
after_moves k begin D = refl

begin_moves : (command : Option ℕ) (offset D : ℕ) → begin_of (moved_begin D command) (offset + D) ≡ begin_of command offset + D
begin_moves None offset D = refl
begin_moves (Some begin) offset D = refl

by_moves : (D L : ℕ) (here : Place) (c d : Code) (t u : Bool) (x y : Lexed) → u ≡ t → (t ≡ false → d ≡ c) → y ≡ moved D L x → by_bound (moved_place D L here) d u y ≡ moved D L (by_bound here c t x)
by_moves D L here c d true u x y e k h = ap (λ z. by_bound (moved_place D L here) d z y) e ∙ h
by_moves D L here c d false u x y e k h = ap (λ z. by_bound (moved_place D L here) d z y) e ∙ ap (fault_at (moved_place D L here)) (k refl)

ends_move : (D L : ℕ) (e : Ending) (x y u v : Lexed) → u ≡ moved D L x → v ≡ moved D L y → at_end e u v ≡ moved D L (at_end e x y)
ends_move D L whole x y u v p q = p
ends_move D L broken x y u v p q = q

last_moves : (t : Bool) (last later D : ℕ) → later ≡ last + D → (if t then later + 1 else later) ≡ (if t then last + 1 else last) + D
last_moves true last later D e = omega arith
last_moves false last later D e = e

-- ---- one byte

-- it is part of what stands before
pub passed : (limits : Limits) (e : Ending) (total : ℕ) (here : Place) (command : Option ℕ) (left b : ℕ) (bs : List ℕ) → nat_le left (length bs) ≡ true
    → tokens_from limits e total here command left (b ∷ bs) ≡ tokens_from limits e total (behind here b) command left bs
passed limits e total here command left b bs t = rw (t, tokens_from) refl

-- a spelling begins there
pub begun : (limits : Limits) (e : Ending) (total : ℕ) (here : Place) (command : Option ℕ) (left b : ℕ) (bs : List ℕ) → nat_le left (length bs) ≡ false → tokens_from limits e total here command left (b ∷ bs)
    ≡ outcome_at (record { limits = limits; ending = e; total = total; here = here; command = command }) (spelled limits.name_bytes b bs) (λ c left. tokens_from limits e total (behind here b) c left bs)
begun limits e total here command left b bs t = rw (t, tokens_from) refl

-- ---- what a spelling gives

module _ (limits : Limits) (e : Ending) (total D L : ℕ) (fits : total + D ≤ input_limit limits) where
  abbrev here_at : Place → Option ℕ → Setting
  here_at here command = record { limits = limits; ending = e; total = total; here = here; command = command }

  abbrev there_at : Place → Option ℕ → Setting
  there_at here command = record { limits = limits; ending = e; total = total + D; here = moved_place D L here; command = moved_begin D command }

  bound_moves : (command : Option ℕ) → Moves D total (bound limits command) (bound limits (moved_begin D command))
  unfolding bound
  bound_moves None = all_within D total _ _ (omega arith) fits
  bound_moves (Some begin) = nearer_moves D total (begin + command_limit limits) (begin + D + command_limit limits) (input_limit limits) fits (omega arith)

  late_moves : (here : Place) (command : Option ℕ) (begin left : ℕ) → Moves D total (late_bound (here_at here command) begin left) (late_bound (there_at here command) (begin + D) left)
  late_moves here command begin left =
      let last : ℕ = begin + command_limit limits in
      let later : ℕ = begin + D + command_limit limits in
      let same : (later + left == total + D) ≡ (last + left == total) = same_test (later + left) (total + D) (last + left) total (λ p. omega arith) (λ p. omega arith) in
      nearer_moves D total (if last + left == total then last + 1 else last) (if later + left == total + D then later + 1 else later) (input_limit limits) fits
      (ap (λ t. if t then later + 1 else later) same ∙ last_moves (last + left == total) last later D (omega arith))

  within_moves : (here : Place) (command : Option ℕ) (bd md : Bound) (left : ℕ) (x y : Lexed) → Moves D total bd md → y ≡ moved D L x → within (there_at here command) md left y ≡ moved D L (within (here_at here command) bd left x)
  within_moves here command bd md left x y m h = by_moves D L here bd.code md.code (nat_le total (bd.last + left)) (nat_le (total + D) (md.last + left)) x y (m.tests left) (m.codes left) h

  abbrev MoreMoves : (Option ℕ → ℕ → Lexed) → (Option ℕ → ℕ → Lexed) → Type 0
  MoreMoves more later = (c : Option ℕ) (left : ℕ) → later (moved_begin D c) left ≡ moved D L (more c left)

  outcome_moves : (here : Place) (command : Option ℕ) (begin : ℕ) (bd md : Bound) (s : Spelling) (more later : Option ℕ → ℕ → Lexed) → KeepsBrace s → Moves D total bd md → MoreMoves more later
      → outcome (there_at here command) (begin + D) md s later ≡ moved D L (outcome (here_at here command) begin bd s more)
  outcome_moves here command begin bd md (token k text left) more later b m h =
      within_moves here command bd md left (gives (token_at here k text) (more (command_after k begin) left)) (gives (token_at (moved_place D L here) k text) (later (command_after k (begin + D)) left)) m
      (ap (gives (token_at (moved_place D L here) k text)) (ap (λ c. later c left) (after_moves k begin D) ∙ h (command_after k begin) left))
  outcome_moves here command begin bd md (run_and_dot text left) more later b m h =
      let name : Token = token_at (moved_place D L here) (kind_of text) text in
      let same : dot_at (moved_place D L here) text ≡ moved_token D L (dot_at here text) = ap (λ o. let t : Token = record { kind = kind.Sign sign.Dot; spelling = []; offset = o; line = here.line + L } in t) (let q : here.offset + D + length text ≡ here.offset + length text + D = omega arith in q) in
      within_moves here command bd md left (gives (token_at here (kind_of text) text) (gives (dot_at here text) (more None left))) (gives name (gives (dot_at (moved_place D L here) text) (later None left))) m
      (λ i. gives name (gives (same i) (h None left i)))
  outcome_moves here command begin bd md (wrong code left) more later b m h = within_moves here command bd md left (fault_at here code) (fault_at (moved_place D L here) code) m refl
  outcome_moves here command begin bd md (unsettled s) more later b m h =
      ends_move D L e (outcome (here_at here command) begin bd s more) (within (here_at here command) bd 0 (nothing_at here))
      (outcome (there_at here command) (begin + D) md s later) (within (there_at here command) md 0 (nothing_at (moved_place D L here)))
      (outcome_moves here command begin bd md s more later b m h) (within_moves here command bd md 0 (nothing_at here) (nothing_at (moved_place D L here)) m refl)
  outcome_moves here command begin bd md (late left s) more later b m h =
      let some : 1 ≤ left = b.0 in
      let same : nat_lt (total + D) (input_limit limits + left) ≡ nat_lt total (input_limit limits + left) =
      lt_true (total + D) (input_limit limits + left) (omega arith) ∙ sym (lt_true total (input_limit limits + left) (omega arith)) in
      let x : Lexed = outcome (here_at here command) begin (late_bound (here_at here command) begin left) s more in
      let y : Lexed = outcome (there_at here command) (begin + D) (late_bound (there_at here command) (begin + D) left) s later in
      let moves : y ≡ moved D L x =
      outcome_moves here command begin (late_bound (here_at here command) begin left) (late_bound (there_at here command) (begin + D) left) s more later b.1 (late_moves here command begin left) h in
      within_moves here command bd md left (by_bound here E07 (nat_lt total (input_limit limits + left)) x) (by_bound (moved_place D L here) E07 (nat_lt (total + D) (input_limit limits + left)) y) m
      (by_moves D L here E07 E07 (nat_lt total (input_limit limits + left)) (nat_lt (total + D) (input_limit limits + left)) x y same (λ z. refl) moves)
  outcome_moves here command begin bd md (blank left) more later b m h =
      within_moves here command (bound limits command) (bound limits (moved_begin D command)) left (more command left) (later (moved_begin D command) left) (bound_moves command) (h command left)
  outcome_moves here command begin bd md comment_open more later b m h =
      within_moves here command (bound limits command) (bound limits (moved_begin D command)) 0 (at_end e (fault_at here E03) (nothing_at here)) (at_end e (fault_at (moved_place D L here) E03) (nothing_at (moved_place D L here))) (bound_moves command)
      (ends_move D L e (fault_at here E03) (nothing_at here) (fault_at (moved_place D L here) E03) (nothing_at (moved_place D L here)) refl refl)

  -- ---- one byte after the other

  line_by : (t : Bool) (line : ℕ) → line + L < 4294967295 → (if t then next_line (line + L) else line + L) ≡ (if t then next_line line else line) + L
  line_by true line h = let q : min (line + L + 1) 4294967295 ≡ min (line + 1) 4294967295 + L = omega arith in q
  line_by false line h = refl

  line_least : (t : Bool) (line : ℕ) → (if t then next_line line else line) ≤ line + 1
  line_least true line = let q : min (line + 1) 4294967295 ≤ line + 1 = omega arith in q
  line_least false line = omega arith

  behind_moves : (here : Place) (b : ℕ) → here.line + L < 4294967295 → behind (moved_place D L here) b ≡ moved_place D L (behind here b)
  unfolding behind
  behind_moves here b h =
      let o : here.offset + D + 1 ≡ here.offset + 1 + D = omega arith in
      let n : (if b == 10 then next_line (here.line + L) else here.line + L) ≡ (if b == 10 then next_line here.line else here.line) + L = line_by (b == 10) here.line h in
      λ i. record { offset = o i; line = n i }

  behind_least : (here : Place) (b : ℕ) → (behind here b).line ≤ here.line + 1
  unfolding behind
  behind_least here b = line_least (b == 10) here.line

  abbrev MovesFrom : Place → Option ℕ → ℕ → List ℕ → Type 0
  MovesFrom here command left bs = tokens_from limits e (total + D) (moved_place D L here) (moved_begin D command) left bs ≡ moved D L (tokens_from limits e total here command left bs)

  byte_moves : (here : Place) (command : Option ℕ) (left b : ℕ) (bs : List ℕ) → here.line + L < 4294967295 → ((c : Option ℕ) (n : ℕ) → MovesFrom (behind here b) c n bs) → MovesFrom here command left (b ∷ bs)
  byte_moves here command left b bs small rest = by (nat_le left (length bs)) refl
    where
      next : (c : Option ℕ) (n : ℕ) → tokens_from limits e (total + D) (behind (moved_place D L here) b) (moved_begin D c) n bs ≡ moved D L (tokens_from limits e total (behind here b) c n bs)
      next c n = ap (λ (p : Place). tokens_from limits e (total + D) p (moved_begin D c) n bs) (behind_moves here b small) ∙ rest c n

      by : (t : Bool) → nat_le left (length bs) ≡ t → MovesFrom here command left (b ∷ bs)
      by true t = passed limits e (total + D) (moved_place D L here) (moved_begin D command) left b bs t ∙ next command left ∙ ap (moved D L) (sym (passed limits e total here command left b bs t))
      by false t =
          let begin : ℕ = begin_of command here.offset in
          let s : Spelling = spelled limits.name_bytes b bs in
          begun limits e (total + D) (moved_place D L here) (moved_begin D command) left b bs t
          ∙ ap (λ n. outcome (there_at here command) n (bound limits (Some n)) s (λ c left. tokens_from limits e (total + D) (behind (moved_place D L here) b) c left bs)) (begin_moves command here.offset D)
          ∙ outcome_moves here command begin (bound limits (Some begin)) (bound limits (Some (begin + D))) s (λ c left. tokens_from limits e total (behind here b) c left bs) (λ c left. tokens_from limits e (total + D) (behind (moved_place D L here) b) c left bs)
          (keeps_brace limits.name_bytes b bs) (bound_moves (Some begin)) next
          ∙ ap (moved D L) (sym (begun limits e total here command left b bs t))

  pub from_moves : (bs : List ℕ) (here : Place) (command : Option ℕ) (left : ℕ) → here.line + L + length bs ≤ 4294967295 → MovesFrom here command left bs
  from_moves [] here command left h = refl
  from_moves (b ∷ bs) here command left h = byte_moves here command left b bs (omega arith) (λ c n. from_moves bs (behind here b) c n (let q : (behind here b).line ≤ here.line + 1 = behind_least here b in omega arith))

-- ---- a text behind others

abbrev pub place_at : ℕ → ℕ → Place
place_at D L = record { offset = 0 + D; line = 1 + L }

moved_both : (D L : ℕ) (ts us : List Token) → map (moved_token D L) (ts ++ us) ≡ map (moved_token D L) ts ++ map (moved_token D L) us
moved_both D L [] us = refl
moved_both D L (t ∷ ts) us = ap (λ (x : List Token). moved_token D L t ∷ x) (moved_both D L ts us)

moved_adds : (D L : ℕ) (ts : List Token) (x : Lexed) → moved D L (adds ts x) ≡ adds (map (moved_token D L) ts) (moved D L x)
moved_adds D L ts x = ap (λ (us : List Token). let y : Lexed = record { tokens = us; fault = x.fault; line = x.line + L } in y) (moved_both D L ts x.tokens)

from_start : (limits : Limits) (bytes : List ℕ) → tokens_from limits whole (length bytes) (record { offset = 0; line = 1 }) None (length bytes) bytes ≡ tokens limits bytes whole
unfolding tokens
from_start limits bytes = refl

-- bytes that give some tokens, and behind which nothing is begun, give them behind others too
pub reads_behind : (limits : Limits) (text rest : List ℕ) (ts : List Token) (last : Place) (total D L : ℕ) → Reads false limits text ts last None [] → length (text ++ rest) + D ≡ total → total ≤ input_limit limits
    → 1 + L + length (text ++ rest) ≤ 4294967295 → last.line + L + length rest ≤ 4294967295
    → tokens_from limits whole total (place_at D L) None (length (text ++ rest)) (text ++ rest) ≡ adds (map (moved_token D L) ts) (tokens_from limits whole total (moved_place D L last) None (length rest) rest)
reads_behind limits text rest ts last total D L r size fits lines later =
    let all : List ℕ = text ++ rest in
    let few : length all + D ≤ input_limit limits = omega arith in
    ap (λ n. tokens_from limits whole n (place_at D L) None (length all) all) (sym size)
    ∙ from_moves limits whole (length all) D L few all (record { offset = 0; line = 1 }) None (length all) lines
    ∙ ap (moved D L) (from_start limits all ∙ r.onward rest whole tt)
    ∙ moved_adds D L ts (tokens_from limits whole (length all) last None (length rest) rest)
    ∙ ap (adds (map (moved_token D L) ts)) (sym (from_moves limits whole (length all) D L few rest last None (length rest) later) ∙ ap (λ n. tokens_from limits whole n (moved_place D L last) None (length rest) rest) size)
