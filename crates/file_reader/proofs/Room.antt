-- Bytes without a fault are within the limit.
use Rattle.std.proofs.Common.{◌≡◌, ◌≤◌, ◌⊎◌, inl, inr, ⊎_elim, ℕ, suc, ◌+◌, ◌-◌, Bool, true, false, List, [], ◌∷◌, length, refl, sym, ap, ◌∙◌, arith}
use Rattle.std.proofs.lemmas.Bool.Decides.{nat_tests}
use Rattle.std.specs.Prelude.{Option, Some, None, nat_le, nat_lt, if◌then◌else◌, ◌==◌}
use Rattle.dk_model.specs.declared.code.Code.{Code}
use Rattle.dk_model.specs.declared.code.Code.TheVariants.{E05}
use Rattle.dk_model.specs.declared.limits.Limits.{Limits}
use Rattle.dk_lexer.specs.declared.class.Class.{Class}
use Rattle.dk_lexer.specs.declared.class.Class.TheVariants as class
use Rattle.dk_lexer.specs.declared.place.Place.{Place}
use Rattle.dk_lexer.specs.Classes.{class_of}
use Rattle.dk_lexer.specs.Spelling.{Spelling, blank, comment_open, late, name_spelled, behind_name, run_and_dot, spelled, spelled_by, token, unsettled, wrong}
use Rattle.dk_lexer.specs.Tokens.{Bound, Ending, Lexed, Setting, at_end, begin_of, behind, bound, broken, by_bound, command_after, command_limit, input_limit, late_bound, nearer, nothing_at, outcome, tokens, tokens_from, whole, within}

-- a spelling that is settled leaves so many bytes
abbrev LeavesSo : Spelling → ℕ → Type 0
LeavesSo (blank n) left = left ≡ n
LeavesSo (token kind text n) left = left ≡ n
LeavesSo (run_and_dot text n) left = left ≡ n
LeavesSo (wrong code n) left = ⊥
LeavesSo comment_open left = ⊥
LeavesSo (unsettled settled) left = ⊥
LeavesSo (late n spelling) left = LeavesSo spelling left

nearer_last : (b : Bool) (command input : ℕ) → nat_le command input ≡ b → (nearer command input).last ≤ input
nearer_last true command input is = let le : command ≤ input = grind (arith, nat_tests) in rw is le
nearer_last false command input is = rw is (let e : input ≤ input = omega arith in e)

bound_last : (limits : Limits) (command : Option ℕ) → (bound limits command).last ≤ input_limit limits
unfolding bound
bound_last limits None = omega arith
bound_last limits (Some begin) = nearer_last (nat_le (begin + command_limit limits) (input_limit limits)) (begin + command_limit limits) (input_limit limits) refl

late_last : (s : Setting) (begin left : ℕ) → (late_bound s begin left).last ≤ input_limit s.limits
late_last s begin left =
    let last = begin + command_limit s.limits in
    let command = if last + left == s.total then last + 1 else last in
    nearer_last (nat_le command (input_limit s.limits)) command (input_limit s.limits) refl

-- behind a bound without a fault
by_true : (here : Place) (code : Code) (b : Bool) (lexed : Lexed) → (by_bound here code b lexed).fault ≡ None → (b ≡ true) × (lexed.fault ≡ None)
by_true here code true lexed none = (refl, none)
by_true here code false lexed none = absurd (let e : Some code ≡ None = none in cc)

within_room : (s : Setting) (bd : Bound) (left : ℕ) (lexed : Lexed) → bd.last ≤ input_limit s.limits → (within s bd left lexed).fault ≡ None → (s.total ≤ input_limit s.limits + left) × (lexed.fault ≡ None)
within_room s bd left lexed small none =
    let t = by_true s.here bd.code (nat_le s.total (bd.last + left)) lexed none in
    let is : nat_le s.total (bd.last + left) ≡ true = t.0 in
    let fits : s.total ≤ bd.last + left = grind (arith, nat_tests) in
    (omega (arith, fits, small), t.1)

-- behind a spelling that is settled, the bytes go on without a fault; all of them are within the limit otherwise
abbrev GoesOn : Setting → Spelling → (Option ℕ → ℕ → Lexed) → Type 0
GoesOn s spelling more = (command : Option ℕ) × (left : ℕ) × LeavesSo spelling left × (s.total ≤ input_limit s.limits + left) × ((more command left).fault ≡ None)

spelling_room : (s : Setting) (begin : ℕ) (bd : Bound) (spelling : Spelling) (more : Option ℕ → ℕ → Lexed) → s.ending ≡ broken → bd.last ≤ input_limit s.limits
    → (outcome s begin bd spelling more).fault ≡ None → (s.total ≤ input_limit s.limits) ⊎ GoesOn s spelling more
spelling_room s begin bd (token kind text left) more is small none = let w = within_room s bd left _ small none in inr (command_after kind begin, left, refl, w.0, w.1)
spelling_room s begin bd (run_and_dot text left) more is small none = let w = within_room s bd left _ small none in inr (None, left, refl, w.0, w.1)
spelling_room s begin bd (wrong code left) more is small none = let w = within_room s bd left _ small none in absurd (let e : Some code ≡ None = w.1 in cc)
spelling_room s begin bd (unsettled settled) more is small none = inl (at_broken s.ending is none)
  where
    at_broken : (e : Ending) → e ≡ broken → (at_end e (outcome s begin bd settled more) (within s bd 0 (nothing_at s.here))).fault ≡ None → s.total ≤ input_limit s.limits
    at_broken whole bad f = absurd (let b : whole ≡ broken = bad in cc)
    at_broken broken good f = let w = within_room s bd 0 (nothing_at s.here) small f in let fits = w.0 in omega (arith, fits)
spelling_room s begin bd (late left spelling) more is small none =
    let w = within_room s bd left _ small none in
    let t = by_true s.here _ (nat_lt s.total (input_limit s.limits + left)) (outcome s begin (late_bound s begin left) spelling more) w.1 in
    spelling_room s begin (late_bound s begin left) spelling more is (late_last s begin left) t.1
spelling_room s begin bd (blank left) more is small none = let w = within_room s (bound s.limits s.command) left _ (bound_last s.limits s.command) none in inr (s.command, left, refl, w.0, w.1)
spelling_room s begin bd comment_open more is small none = let w = within_room s (bound s.limits s.command) 0 _ (bound_last s.limits s.command) none in let fits = w.0 in inl (omega (arith, fits))

-- ---- the last byte leaves none

if_last : (t : Bool) (x y : Spelling) (left : ℕ) → (LeavesSo x left → left ≡ 0) → (LeavesSo y left → left ≡ 0) → LeavesSo (if t then x else y) left → left ≡ 0
if_last true x y left f g is = f is
if_last false x y left f g is = g is

name_last : (limit b left : ℕ) → LeavesSo (name_spelled limit (b ∷ []) []) left → left ≡ 0
name_last limit b left is = if_last (nat_le 1 limit) (behind_name limit (b ∷ []) []) (wrong E05 ((1 - limit) + 0)) left (λ e. absurd e) (λ e. absurd e) is

spelled_last : (limit : ℕ) (c : Class) (b left : ℕ) → LeavesSo (spelled_by limit c b []) left → left ≡ 0
spelled_last limit class.Letter b left is = name_last limit b left is
spelled_last limit class.Digit b left is = name_last limit b left is
spelled_last limit class.Underscore b left is = name_last limit b left is
spelled_last limit class.Quote b left is = absurd is
spelled_last limit class.Blank b left is = is
spelled_last limit class.Newline b left is = is
spelled_last limit class.Colon b left is = absurd is
spelled_last limit class.Equals b left is = absurd is
spelled_last limit class.Minus b left is = absurd is
spelled_last limit class.Greater b left is = absurd is
spelled_last limit class.Dot b left is = is
spelled_last limit class.Comma b left is = is
spelled_last limit class.OpenBracket b left is = absurd is
spelled_last limit class.CloseBracket b left is = is
spelled_last limit class.OpenSquare b left is = is
spelled_last limit class.CloseSquare b left is = is
spelled_last limit class.OpenBrace b left is = absurd is
spelled_last limit class.CloseBrace b left is = is
spelled_last limit class.Bar b left is = absurd is
spelled_last limit class.Semicolon b left is = absurd is
spelled_last limit class.Hash b left is = absurd is
spelled_last limit class.Other b left is = absurd is

-- ---- from byte to byte

true_or_false : (t : Bool) → (t ≡ true) ⊎ (t ≡ false)
true_or_false true = inl refl
true_or_false false = inr refl

none_at_most : (left : ℕ) → nat_le left 0 ≡ true → left ≡ 0
none_at_most left is = let le : left ≤ 0 = grind (arith, nat_tests) in omega (arith, le)

module _ (limits : Limits) (total : ℕ) where
  -- a byte of the spelling before
  passed : (here : Place) (command : Option ℕ) (left b : ℕ) (bs : List ℕ) → nat_le left (length bs) ≡ true → tokens_from limits broken total here command left (b ∷ bs) ≡ tokens_from limits broken total (behind here b) command left bs
  passed here command left b bs t = rw (t, tokens_from) refl

  -- a byte where the next spelling begins
  spelled_from : (here : Place) (command : Option ℕ) (left b : ℕ) (bs : List ℕ) → nat_le left (length bs) ≡ false
      → (tokens_from limits broken total here command left (b ∷ bs)).fault ≡ None
      → (total ≤ input_limit limits) ⊎ GoesOn (record { limits = limits; ending = broken; total = total; here = here; command = command }) (spelled limits.name_bytes b bs) (λ command left. tokens_from limits broken total (behind here b) command left bs)
  spelled_from here command left b bs t none =
      let s : Setting = record { limits = limits; ending = broken; total = total; here = here; command = command } in
      let begin = begin_of command here.offset in
      let same : tokens_from limits broken total here command left (b ∷ bs) ≡ outcome s begin (bound limits (Some begin)) (spelled limits.name_bytes b bs) (λ command left. tokens_from limits broken total (behind here b) command left bs) = rw (t, tokens_from) refl in
      spelling_room s begin (bound limits (Some begin)) (spelled limits.name_bytes b bs) (λ command left. tokens_from limits broken total (behind here b) command left bs) refl (bound_last limits (Some begin))
      (ap (λ (l : Lexed). l.fault) (sym same) ∙ none)

  room : (here : Place) (command : Option ℕ) (left b : ℕ) (bs : List ℕ) → (tokens_from limits broken total here command left (b ∷ bs)).fault ≡ None → (left ≡ 0 → total ≤ input_limit limits) → total ≤ input_limit limits
  room here command left b [] none fits =
      ⊎_elim (λ t. fits (none_at_most left t))
      (λ t. ⊎_elim (λ f. f) (λ g. let at_most = g.3 in let last = spelled_last limits.name_bytes (class_of b) b g.1 g.2 in omega (arith, at_most, last)) (spelled_from here command left b [] t none))
      (true_or_false (nat_le left 0))
  room here command left b (c ∷ cs) none fits =
      ⊎_elim (λ t. room (behind here b) command left c cs (ap (λ (l : Lexed). l.fault) (sym (passed here command left b (c ∷ cs) t)) ∙ none) fits)
      (λ t. ⊎_elim (λ f. f) (λ g. room (behind here b) g.0 g.1 c cs g.4 (λ z. let at_most = g.3 in omega (arith, at_most, z))) (spelled_from here command left b (c ∷ cs) t none))
      (true_or_false (nat_le left (length (c ∷ cs))))

pub in_room : (limits : Limits) (bytes : List ℕ) → (tokens limits bytes broken).fault ≡ None → length bytes ≤ 4294967294
unfolding tokens
in_room limits [] none = omega arith
in_room limits (b ∷ bs) none =
    let fits : length (b ∷ bs) ≤ input_limit limits =
    room limits (length (b ∷ bs)) (record { offset = 0; line = 1 }) None (length (b ∷ bs)) b bs none (λ z. absurd (let bad : suc (length bs) ≡ 0 = z in cc)) in
    omega (arith, fits)
