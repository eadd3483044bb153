-- The line of a reading: that of its first place, or at most so many more as there are bytes.
use Rattle.std.proofs.Common.{ℕ, suc, ◌+◌, ◌≡◌, ◌≤◌, min, Bool, true, false, nat_le, nat_lt, ◌==◌, List, [], ◌∷◌, ◌++◌, length, ap, arith, if◌then◌else◌}
use Rattle.std.proofs.lemmas.List.{append-nil}
use Rattle.std.specs.Prelude.{Option, Some, None}
use Rattle.dk_model.specs.declared.code.Code.{Code}
use Rattle.dk_model.specs.declared.code.Code.TheVariants.{E03, E07}
use Rattle.dk_model.specs.declared.limits.Limits.{Limits}
use Rattle.dk_lexer.specs.declared.place.Place.{Place}
use Rattle.dk_lexer.specs.declared.token.Token.{Token}
use Rattle.dk_lexer.specs.Spelling.{Spelling, blank, token, run_and_dot, wrong, comment_open, unsettled, late, kind_of, spelled}
use Rattle.dk_lexer.specs.Tokens.{Ending, whole, broken, Lexed, Bound, Setting, at_end, begin_of, behind, bound, by_bound, command_after, dot_at, fault_at, gives, input_limit, late_bound, next_line, nothing_at, outcome, token_at, tokens, tokens_from, within}
use Rattle.one_lexer.specs.Places.{place_behind}
use Rattle.one_lexer.specs.Reading.{Reads, setting_at}

-- a line that is at least the first, and at most so many more
abbrev pub IsNear : ℕ → ℕ → Lexed → Type 0
IsNear line n lexed = (1 ≤ lexed.line) × (lexed.line ≤ line + n)

by_near : (line n : ℕ) (here : Place) (code : Code) (t : Bool) (x : Lexed) → IsNear line n (nothing_at here) → IsNear line n x → IsNear line n (by_bound here code t x)
by_near line n here code true x h g = g
by_near line n here code false x h g = h

ends_near : (line n : ℕ) (e : Ending) (x y : Lexed) → IsNear line n x → IsNear line n y → IsNear line n (at_end e x y)
ends_near line n whole x y h g = h
ends_near line n broken x y h g = g

outcome_near : (line n : ℕ) (s : Setting) (begin : ℕ) (bd : Bound) (x : Spelling) (more : Option ℕ → ℕ → Lexed) → IsNear line n (nothing_at s.here) → ((c : Option ℕ) (left : ℕ) → IsNear line n (more c left)) → IsNear line n (outcome s begin bd x more)
outcome_near line n s begin bd (token k text left) more h g = by_near line n s.here bd.code (nat_le s.total (bd.last + left)) (gives (token_at s.here k text) (more (command_after k begin) left)) h (g (command_after k begin) left)
outcome_near line n s begin bd (run_and_dot text left) more h g = by_near line n s.here bd.code (nat_le s.total (bd.last + left)) (gives (token_at s.here (kind_of text) text) (gives (dot_at s.here text) (more None left))) h (g None left)
outcome_near line n s begin bd (wrong code left) more h g = by_near line n s.here bd.code (nat_le s.total (bd.last + left)) (fault_at s.here code) h h
outcome_near line n s begin bd (unsettled x) more h g =
    ends_near line n s.ending (outcome s begin bd x more) (within s bd 0 (nothing_at s.here)) (outcome_near line n s begin bd x more h g)
    (by_near line n s.here bd.code (nat_le s.total (bd.last + 0)) (nothing_at s.here) h h)
outcome_near line n s begin bd (late left x) more h g =
    by_near line n s.here bd.code (nat_le s.total (bd.last + left)) (by_bound s.here E07 (nat_lt s.total (input_limit s.limits + left)) (outcome s begin (late_bound s begin left) x more)) h
    (by_near line n s.here E07 (nat_lt s.total (input_limit s.limits + left)) (outcome s begin (late_bound s begin left) x more) h (outcome_near line n s begin (late_bound s begin left) x more h g))
outcome_near line n s begin bd (blank left) more h g = by_near line n s.here (bound s.limits s.command).code (nat_le s.total ((bound s.limits s.command).last + left)) (more s.command left) h (g s.command left)
outcome_near line n s begin bd comment_open more h g =
    by_near line n s.here (bound s.limits s.command).code (nat_le s.total ((bound s.limits s.command).last + 0)) (at_end s.ending (fault_at s.here E03) (nothing_at s.here)) h
    (ends_near line n s.ending (fault_at s.here E03) (nothing_at s.here) h h)

line_by : (t : Bool) (line : ℕ) → 1 ≤ line → (1 ≤ (if t then next_line line else line)) × ((if t then next_line line else line) ≤ line + 1)
line_by true line h = (let q : 1 ≤ min (line + 1) 4294967295 = omega arith in q, let q : min (line + 1) 4294967295 ≤ line + 1 = omega arith in q)
line_by false line h = (h, omega arith)

-- a byte is on the same line or ends it
pub behind_line : (here : Place) (b : ℕ) → 1 ≤ here.line → (1 ≤ (behind here b).line) × ((behind here b).line ≤ here.line + 1)
unfolding behind
behind_line here b h = line_by (b == 10) here.line h

near_more : (line next n : ℕ) (x : Lexed) → next ≤ line + 1 → IsNear next n x → IsNear line (suc n) x
near_more line next n x le h = (h.0, let q : x.line ≤ next + n = h.1 in omega arith)

choice_near : (line n : ℕ) (t : Bool) (x y : Lexed) → IsNear line n x → IsNear line n y → IsNear line n (elim t [ true ↦ x | false ↦ y ])
choice_near line n true x y h g = h
choice_near line n false x y h g = g

pub from_near : (limits : Limits) (e : Ending) (total : ℕ) (bs : List ℕ) (here : Place) (command : Option ℕ) (left : ℕ) → 1 ≤ here.line → IsNear here.line (length bs) (tokens_from limits e total here command left bs)
from_near limits e total [] here command left h = (h, omega arith)
from_near limits e total (b ∷ bs) here command left h =
    let first : IsNear here.line (suc (length bs)) (nothing_at here) = (h, omega arith) in
    let begin : ℕ = begin_of command here.offset in
    let next : (1 ≤ (behind here b).line) × ((behind here b).line ≤ here.line + 1) = behind_line here b h in
    let rest : (c : Option ℕ) (n : ℕ) → IsNear here.line (suc (length bs)) (tokens_from limits e total (behind here b) c n bs) =
    λ c n. near_more here.line (behind here b).line (length bs) (tokens_from limits e total (behind here b) c n bs) next.1 (from_near limits e total bs (behind here b) c n next.0) in
    choice_near here.line (suc (length bs)) (nat_le left (length bs)) (tokens_from limits e total (behind here b) command left bs) _ (rest command left)
    (outcome_near here.line (suc (length bs)) (setting_at limits e total here command) begin (bound limits (Some begin)) (spelled limits.name_bytes b bs) (λ c left. tokens_from limits e total (behind here b) c left bs)
    first rest)

-- the place behind some bytes
pub place_line : (here : Place) (bs : List ℕ) → 1 ≤ here.line → (1 ≤ (place_behind here bs).line) × ((place_behind here bs).line ≤ here.line + length bs)
place_line here [] h = (h, omega arith)
place_line here (b ∷ bs) h =
    let next : (1 ≤ (behind here b).line) × ((behind here b).line ≤ here.line + 1) = behind_line here b h in
    let rest : (1 ≤ (place_behind (behind here b) bs).line) × ((place_behind (behind here b) bs).line ≤ (behind here b).line + length bs) = place_line (behind here b) bs next.0 in
    let least : (behind here b).line ≤ here.line + 1 = next.1 in
    let most : (place_behind (behind here b) bs).line ≤ (behind here b).line + length bs = rest.1 in
    (rest.0, omega arith)

tokens_near : (limits : Limits) (bytes : List ℕ) (e : Ending) → IsNear 1 (length bytes) (tokens limits bytes e)
unfolding tokens
tokens_near limits bytes e = from_near limits e (length bytes) bytes (record { offset = 0; line = 1 }) None (length bytes) (omega arith)

-- where bytes end that are read to their end, with nothing begun behind them
pub record EndsAt (bytes : List ℕ) (here : Place) : Type 0 where
  pub offset : here.offset ≡ length bytes
  pub least : 1 ≤ here.line
  pub most : here.line ≤ 1 + length bytes

pub reads_end : (limits : Limits) (bytes : List ℕ) (ts : List Token) (here : Place) → Reads false limits bytes ts here None [] → EndsAt bytes here
reads_end limits bytes ts here r =
    let size : length bytes ≡ here.offset + 0 = r.total in
    let line : (tokens limits (bytes ++ []) whole).line ≡ here.line = ap (λ (x : Lexed). x.line) (r.onward [] whole tt) in
    let near : IsNear 1 (length (bytes ++ [])) (tokens limits (bytes ++ []) whole) = tokens_near limits (bytes ++ []) whole in
    let n : length (bytes ++ []) ≡ length bytes = ap length (append-nil bytes) in
    let least : 1 ≤ (tokens limits (bytes ++ []) whole).line = near.0 in
    let most : (tokens limits (bytes ++ []) whole).line ≤ 1 + length (bytes ++ []) = near.1 in
    record { offset = omega arith; least = omega arith; most = omega arith }
