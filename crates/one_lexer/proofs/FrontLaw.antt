-- What is known of bytes stands however they go on: reading them, one spelling after the other, to their end.
use Rattle.std.proofs.Common.{inl, inr, ◌≡◌, ◌≤◌, ◌<◌, ℕ, zero, suc, ◌+◌, ◌-◌, Bool, true, false, nat_le, List, [], ◌∷◌, ◌++◌, length, take, refl, sym, ap, subst, ◌∙◌, arith, length-append}
use Rattle.std.proofs.lemmas.List.{append-nil}
use Rattle.std.specs.Prelude.{Option, Some, None, ◌⊎◌}
use borrow.Author.Tests.{leb-true, leb-false}
use Rattle.dk_model.specs.declared.code.Code.{Code}
use Rattle.dk_model.specs.declared.code.Code.TheVariants.{E07}
use Rattle.dk_model.specs.declared.limits.Limits.{Limits}
use Rattle.dk_lexer.specs.declared.class.Class.{Class}
use Rattle.dk_lexer.specs.declared.class.Class.TheVariants as class
use Rattle.dk_lexer.specs.declared.token.Token.{Token}
use Rattle.dk_lexer.specs.declared.token.TokenKind.{TokenKind}
use Rattle.dk_lexer.specs.declared.place.Place.{Place}
use Rattle.dk_lexer.specs.Classes.{class_of}
use Rattle.dk_lexer.specs.Given.{IsFrontOf, Stays}
use Rattle.dk_lexer.specs.Spelling.{Spelling, apart, blank, closes, comment, comment_open, kind_of, late, Pair, opens, pair, run_and_dot, token, unsettled, wrong}
use Rattle.dk_lexer.specs.Tokens.{Ending, broken, Lexed, begin_of, behind, bound, command_after, fault_at, input_limit, nothing_at, outcome_at, token_at, tokens, tokens_from}
use Rattle.dk_lexer.proofs.Outcomes.{begins, within_true}
use Rattle.one_lexer.specs.Bounds.{LateFails, LateFits, front_bound}
use Rattle.one_lexer.specs.Places.{place_behind}
use Rattle.one_lexer.specs.Reading.{Fails, Reads, adds, last_of, setting_at}
use Rattle.one_lexer.specs.Views.{late_by, spelled_front}
use Rattle.one_lexer.proofs.Carries.{late_fails, now_is, open_fails, open_waits}
use Rattle.one_lexer.proofs.InComments.{blank_over}
use Rattle.one_lexer.proofs.Leaves.{IsBlank, comment_blank}
use Rattle.one_lexer.proofs.Lexers.{reads_start}
use Rattle.one_lexer.proofs.Nexts.{Meets, blank_fails, blank_next, past_next, run_bytes, run_next, run_size, token_next, wrong_next}
use Rattle.one_lexer.proofs.Places.{last_length}
use Rattle.one_lexer.proofs.Reading.{IsMet, adds_nothing}
use Rattle.one_lexer.proofs.Runs.{BraceIs, StandsBy, StartsRun, run_starts}
use Rattle.one_lexer.proofs.Shapes.{Kind, Tight, comment_opens, front_kind, passes, stands}

le_by : (t : Bool) (a b : ℕ) → nat_le a b ≡ t → (a ≤ b) ⊎ (b < a)
le_by true a b h = inl (leb-true a b h)
le_by false a b h = inr (leb-false a b h)

le_or_lt : (a b : ℕ) → (a ≤ b) ⊎ (b < a)
le_or_lt a b = le_by (nat_le a b) a b refl

-- ---- one spelling

-- Reading goes on with fewer bytes than there are; or the bytes so far give nothing more; or there is a fault.
pub data Goes (limits : Limits) (bytes : List ℕ) (ts : List Token) (n : ℕ) : Type 0 where
  goes : (more : List Token) (here : Place) (command : Option ℕ) (rest : List ℕ) → length rest < n → Reads false limits bytes more here command rest → Goes limits bytes ts n
  waits : (here : Place) → tokens limits bytes broken ≡ adds ts (nothing_at here) → Goes limits bytes ts n
  fails : (here : Place) (code : Code) → Fails false limits bytes ts here code → Goes limits bytes ts n

-- a blank
blank_goes : (limits : Limits) (bytes : List ℕ) (ts : List Token) (here : Place) (command : Option ℕ) (b : ℕ) (bs : List ℕ) (left : ℕ)
    → Reads false limits bytes ts here command (b ∷ bs) → spelled_front limits.name_bytes (b ∷ bs) ≡ blank left → left < suc (length bs)
    → (length bytes ≤ (bound limits command).last + left) ⊎ ((bound limits command).last + left < length bytes) → Goes limits bytes ts (suc (length bs))
blank_goes limits bytes ts here command b bs left r is lt (inl fits) =
    let n = last_length left (b ∷ bs) (let le : left ≤ suc (length bs) = omega arith in le) in
    goes ts (place_behind here (take (suc (length bs) - left) (b ∷ bs))) command (last_of left (b ∷ bs)) (omega arith) (blank_next false limits bytes (b ∷ bs) ts here command left r is lt fits)
blank_goes limits bytes ts here command b bs left r is lt (inr past) = fails here (bound limits command).code (blank_fails false limits bytes (b ∷ bs) ts here command left r is lt past)

-- a comment that is open
grows_by : (t : Bool) (depth : ℕ) (ds more : List ℕ) → elim t [ true ↦ blank (length ds) | false ↦ comment (depth - 1) class.Other ds ] ≡ comment_open
    → ((d : ℕ) (last : Class) → comment d last ds ≡ comment_open → IsBlank (length more) (comment d last (ds ++ more)))
    → IsBlank (length more) (elim t [ true ↦ blank (length (ds ++ more)) | false ↦ comment (depth - 1) class.Other (ds ++ more) ])
grows_by true depth ds more h ih = absurd cc
grows_by false depth ds more h ih = ih (depth - 1) class.Other h

pair_grows : (p : Pair) (depth : ℕ) (c : Class) (ds more : List ℕ)
    → elim p [
      | opens ↦ comment (depth + 1) class.Other ds
      | closes ↦ elim (nat_le depth 1) [ true ↦ blank (length ds) | false ↦ comment (depth - 1) class.Other ds ]
      | apart ↦ comment depth c ds
    ] ≡ comment_open
    → ((d : ℕ) (last : Class) → comment d last ds ≡ comment_open → IsBlank (length more) (comment d last (ds ++ more)))
    → IsBlank (length more) (elim p [
      | opens ↦ comment (depth + 1) class.Other (ds ++ more)
      | closes ↦ elim (nat_le depth 1) [ true ↦ blank (length (ds ++ more)) | false ↦ comment (depth - 1) class.Other (ds ++ more) ]
      | apart ↦ comment depth c (ds ++ more)
    ])
pair_grows opens depth c ds more h ih = ih (depth + 1) class.Other h
pair_grows closes depth c ds more h ih = grows_by (nat_le depth 1) depth ds more h ih
pair_grows apart depth c ds more h ih = ih depth c h

comment_grows : (depth : ℕ) (last : Class) (ds more : List ℕ) → comment depth last ds ≡ comment_open → IsBlank (length more) (comment depth last (ds ++ more))
comment_grows depth last [] more h = comment_blank depth last more
comment_grows depth last (c ∷ ds) more h = pair_grows (pair last (class_of c)) depth (class_of c) ds more h (λ d l e. comment_grows d l ds more e)

open_past : (limits : Limits) (bytes : List ℕ) (ts : List Token) (here : Place) (command : Option ℕ) (b c : ℕ) (ds : List ℕ)
    → Reads false limits bytes ts here command (b ∷ c ∷ ds) → ((more : List ℕ) → spelled_front limits.name_bytes (b ∷ c ∷ (ds ++ more)) ≡ comment 1 class.Other (ds ++ more))
    → comment 1 class.Other ds ≡ comment_open → (bound limits command).last < length bytes → Fails false limits bytes ts here (bound limits command).code
open_past limits bytes ts here command b c ds r starts is past = record {
  stands = λ more e may.
      let n = length-append bytes more in
      let total = length (bytes ++ more) in
      let s = setting_at limits e total here command in
      r.onward more e may
      ∙ ap (adds ts) (begins limits e total here command b (c ∷ (ds ++ more))
      ∙ ap (λ (x : Spelling). outcome_at s x (λ k left. tokens_from limits e total (behind here b) k left (c ∷ (ds ++ more)))) (starts more)
      ∙ blank_over s (length more) (comment 1 class.Other (ds ++ more)) (λ k left. tokens_from limits e total (behind here b) k left (c ∷ (ds ++ more))) (comment_grows 1 class.Other ds more is) (omega arith));
}

comment_past : (limits : Limits) (bytes : List ℕ) (ts : List Token) (here : Place) (command : Option ℕ) (b : ℕ) (bs : List ℕ)
    → Reads false limits bytes ts here command (b ∷ bs) → spelled_front limits.name_bytes (b ∷ bs) ≡ comment_open → (bound limits command).last < length bytes
    → Fails false limits bytes ts here (bound limits command).code
comment_past limits bytes ts here command b bs r is past =
    let k = comment_opens limits.name_bytes (b ∷ bs) is in
    let there : Reads false limits bytes ts here command (k.first ∷ k.second ∷ k.rest) = subst (λ (x : List ℕ). Reads false limits bytes ts here command x) k.bytes_are r in
    let open_rest : comment 1 class.Other k.rest ≡ comment_open =
    ap (comment 1 class.Other) (sym (append-nil k.rest)) ∙ sym (k.starts [])
    ∙ ap (λ (x : List ℕ). spelled_front limits.name_bytes (k.first ∷ k.second ∷ x)) (append-nil k.rest) ∙ ap (spelled_front limits.name_bytes) (sym k.bytes_are) ∙ is in
    open_past limits bytes ts here command k.first k.second k.rest there k.starts open_rest past

comment_goes : (limits : Limits) (bytes : List ℕ) (ts : List Token) (here : Place) (command : Option ℕ) (b : ℕ) (bs : List ℕ)
    → Reads false limits bytes ts here command (b ∷ bs) → spelled_front limits.name_bytes (b ∷ bs) ≡ comment_open
    → (length bytes ≤ (bound limits command).last) ⊎ ((bound limits command).last < length bytes) → Goes limits bytes ts (suc (length bs))
comment_goes limits bytes ts here command b bs r is (inl fits) =
    waits here (now_is false limits bytes ts here command b bs comment_open broken r is tt
    ∙ ap (adds ts) (within_true (setting_at limits broken (length bytes) here command) (bound limits command) 0 (nothing_at here) (omega arith)))
comment_goes limits bytes ts here command b bs r is (inr past) = fails here (bound limits command).code (comment_past limits bytes ts here command b bs r is past)

-- a token or a fault, in its bound
abbrev Bounded : Limits → List ℕ → Place → Option ℕ → Option ℕ → ℕ → Type 0
Bounded limits bytes here command brace left =
    (length bytes ≤ (front_bound limits (begin_of command here.offset) (length bytes) brace).last + left) ⊎ ((front_bound limits (begin_of command here.offset) (length bytes) brace).last + left < length bytes)

token_goes : (limits : Limits) (bytes : List ℕ) (ts : List Token) (here : Place) (command : Option ℕ) (b : ℕ) (bs : List ℕ) (brace : Option ℕ) (kind : TokenKind) (text : List ℕ) (left : ℕ)
    → Meets false limits bytes ts here command (b ∷ bs) brace (token kind text left) → left < suc (length bs) → Bounded limits bytes here command brace left → Goes limits bytes ts (suc (length bs))
token_goes limits bytes ts here command b bs brace kind text left m lt (inl fits) =
    let n = last_length left (b ∷ bs) (let le : left ≤ suc (length bs) = omega arith in le) in
    goes (ts ++ token_at here kind text ∷ []) (place_behind here (take (suc (length bs) - left) (b ∷ bs))) (command_after kind (begin_of command here.offset)) (last_of left (b ∷ bs)) (omega arith)
    (token_next false limits bytes ts here command (b ∷ bs) brace kind text left m lt fits)
token_goes limits bytes ts here command b bs brace kind text left m lt (inr past) =
    fails here (front_bound limits (begin_of command here.offset) (length bytes) brace).code (past_next false limits bytes ts here command (b ∷ bs) brace (token kind text left) left m (omega arith) refl past)

run_goes : (limits : Limits) (bytes : List ℕ) (ts : List Token) (here : Place) (command : Option ℕ) (b : ℕ) (bs : List ℕ) (brace : Option ℕ) (text : List ℕ) (left : ℕ)
    → Meets false limits bytes ts here command (b ∷ bs) brace (run_and_dot text left) → Bounded limits bytes here command brace left → Goes limits bytes ts (suc (length bs))
run_goes limits bytes ts here command b bs brace text left m (inl fits) =
    let lt = run_size (b ∷ bs) text left (run_bytes limits.name_bytes (b ∷ bs) m.settled brace text left (omega arith) m.is) in
    let n = last_length (left + 1) (b ∷ bs) (let le : left + 1 ≤ suc (length bs) = omega arith in le) in
    goes (ts ++ token_at here (kind_of text) text ∷ []) (place_behind here (take (suc (length bs) - (left + 1)) (b ∷ bs))) (Some (begin_of command here.offset)) (last_of (left + 1) (b ∷ bs)) (omega arith)
    (run_next false limits bytes ts here command (b ∷ bs) brace text left m (omega arith) fits)
run_goes limits bytes ts here command b bs brace text left m (inr past) =
    fails here (front_bound limits (begin_of command here.offset) (length bytes) brace).code (past_next false limits bytes ts here command (b ∷ bs) brace (run_and_dot text left) left m (omega arith) refl past)

wrong_goes : (limits : Limits) (bytes : List ℕ) (ts : List Token) (here : Place) (command : Option ℕ) (b : ℕ) (bs : List ℕ) (brace : Option ℕ) (code : Code) (left : ℕ)
    → Meets false limits bytes ts here command (b ∷ bs) brace (wrong code left) → Bounded limits bytes here command brace left → Goes limits bytes ts (suc (length bs))
wrong_goes limits bytes ts here command b bs brace code left m (inl fits) = fails here code (wrong_next false limits bytes ts here command (b ∷ bs) brace code left m (omega arith) fits)
wrong_goes limits bytes ts here command b bs brace code left m (inr past) =
    fails here (front_bound limits (begin_of command here.offset) (length bytes) brace).code (past_next false limits bytes ts here command (b ∷ bs) brace (wrong code left) left m (omega arith) refl past)

met_goes : (limits : Limits) (bytes : List ℕ) (ts : List Token) (here : Place) (command : Option ℕ) (b : ℕ) (bs : List ℕ) (brace : Option ℕ) (s : Spelling)
    → Reads false limits bytes ts here command (b ∷ bs) → late_by brace s ≡ spelled_front limits.name_bytes (b ∷ bs) → IsMet s → Tight (length bs) s
    → LateFits limits (begin_of command here.offset) (length bytes) brace → Goes limits bytes ts (suc (length bs))
met_goes limits bytes ts here command b bs brace (token kind text left) r is met tight fits =
    let le : left ≤ length bs = tight in
    token_goes limits bytes ts here command b bs brace kind text left (record { settled = true; reads = r; is = is; met = met; known = refl; fits = fits }) (omega arith)
    (le_or_lt (length bytes) ((front_bound limits (begin_of command here.offset) (length bytes) brace).last + left))
met_goes limits bytes ts here command b bs brace (run_and_dot text left) r is met tight fits =
    run_goes limits bytes ts here command b bs brace text left (record { settled = true; reads = r; is = is; met = met; known = refl; fits = fits })
    (le_or_lt (length bytes) ((front_bound limits (begin_of command here.offset) (length bytes) brace).last + left))
met_goes limits bytes ts here command b bs brace (wrong code left) r is met tight fits =
    wrong_goes limits bytes ts here command b bs brace code left (record { settled = true; reads = r; is = is; met = met; known = refl; fits = fits })
    (le_or_lt (length bytes) ((front_bound limits (begin_of command here.offset) (length bytes) brace).last + left))
met_goes limits bytes ts here command b bs brace _ r is met tight fits = absurd met

-- what isn't settled, in its bound
open_goes : (limits : Limits) (bytes : List ℕ) (ts : List Token) (here : Place) (command : Option ℕ) (b : ℕ) (bs : List ℕ) (brace : Option ℕ) (s : Spelling)
    → Reads false limits bytes ts here command (b ∷ bs) → late_by brace (unsettled s) ≡ spelled_front limits.name_bytes (b ∷ bs) → LateFits limits (begin_of command here.offset) (length bytes) brace
    → (length bytes ≤ (front_bound limits (begin_of command here.offset) (length bytes) brace).last) ⊎ ((front_bound limits (begin_of command here.offset) (length bytes) brace).last < length bytes)
    → Goes limits bytes ts (suc (length bs))
open_goes limits bytes ts here command b bs brace s r is fits (inl le) = waits here (open_waits limits bytes (b ∷ bs) ts here command brace s r (omega arith) is fits le)
open_goes limits bytes ts here command b bs brace s r is fits (inr lt) =
    fails here (front_bound limits (begin_of command here.offset) (length bytes) brace).code (open_fails limits bytes (b ∷ bs) ts here command brace s r (omega arith) is fits lt)

-- ---- a brace behind a run and a dot

brace_by : (limits : Limits) (begin total m : ℕ) → (total ≤ (bound limits (Some begin)).last + m) ⊎ ((bound limits (Some begin)).last + m < total) → (input_limit limits + m ≤ total) ⊎ (total < input_limit limits + m)
    → LateFits limits begin total (Some m) ⊎ ((code : Code) × LateFails limits begin total (Some m) code)
brace_by limits begin total m (inl fits) (inr input) = inl (fits, input)
brace_by limits begin total m (inl fits) (inl past) = inr (E07, inr (fits, (past, refl)))
brace_by limits begin total m (inr past) input = inr ((bound limits (Some begin)).code, inl (past, refl))

brace_fits : (limits : Limits) (begin total m : ℕ) → LateFits limits begin total (Some m) ⊎ ((code : Code) × LateFails limits begin total (Some m) code)
brace_fits limits begin total m = brace_by limits begin total m (le_or_lt total ((bound limits (Some begin)).last + m)) (le_or_lt (input_limit limits + m) total)

stands_met : (m : ℕ) (s : Spelling) → StandsBy m s → IsMet s
stands_met m (token kind text left) h = tt
stands_met m (run_and_dot text left) h = tt
stands_met m (wrong code left) h = tt
stands_met m _ h = absurd h

abbrev Fitting : Limits → List ℕ → Place → Option ℕ → ℕ → Type 0
Fitting limits bytes here command m =
    LateFits limits (begin_of command here.offset) (length bytes) (Some m) ⊎ ((code : Code) × LateFails limits (begin_of command here.offset) (length bytes) (Some m) code)

late_settled : (limits : Limits) (bytes : List ℕ) (ts : List Token) (here : Place) (command : Option ℕ) (b : ℕ) (bs : List ℕ) (m : ℕ) (s : Spelling)
    → Reads false limits bytes ts here command (b ∷ bs) → spelled_front limits.name_bytes (b ∷ bs) ≡ late m s → IsMet s → Tight (length bs) s → Fitting limits bytes here command m → Goes limits bytes ts (suc (length bs))
late_settled limits bytes ts here command b bs m s r is met tight (inl fits) = met_goes limits bytes ts here command b bs (Some m) s r (sym is) met tight fits
late_settled limits bytes ts here command b bs m s r is met tight (inr past) =
    fails here past.0 (late_fails false true limits bytes (b ∷ bs) ts here command (Some m) s past.0 r (omega arith) met (sym is) past.1)

late_open : (limits : Limits) (bytes : List ℕ) (ts : List Token) (here : Place) (command : Option ℕ) (b : ℕ) (bs : List ℕ) (m : ℕ) (s : Spelling)
    → Reads false limits bytes ts here command (b ∷ bs) → spelled_front limits.name_bytes (b ∷ bs) ≡ late m (unsettled s) → IsMet s → Fitting limits bytes here command m → Goes limits bytes ts (suc (length bs))
late_open limits bytes ts here command b bs m s r is met (inl fits) =
    open_goes limits bytes ts here command b bs (Some m) s r (sym is) fits (le_or_lt (length bytes) (front_bound limits (begin_of command here.offset) (length bytes) (Some m)).last)
late_open limits bytes ts here command b bs m s r is met (inr past) =
    fails here past.0 (late_fails false false limits bytes (b ∷ bs) ts here command (Some m) s past.0 r (omega arith) met (sym is) past.1)

late_goes : (limits : Limits) (bytes : List ℕ) (ts : List Token) (here : Place) (command : Option ℕ) (b : ℕ) (bs : List ℕ) (m : ℕ) (s : Spelling)
    → Reads false limits bytes ts here command (b ∷ bs) → spelled_front limits.name_bytes (b ∷ bs) ≡ late m s → BraceIs m s → Tight (length bs) s → Goes limits bytes ts (suc (length bs))
late_goes limits bytes ts here command b bs m (unsettled s) r is by tight = late_open limits bytes ts here command b bs m s r is (stands_met m s by) (brace_fits limits (begin_of command here.offset) (length bytes) m)
late_goes limits bytes ts here command b bs m (token kind text left) r is by tight = late_settled limits bytes ts here command b bs m (token kind text left) r is tt tight (brace_fits limits (begin_of command here.offset) (length bytes) m)
late_goes limits bytes ts here command b bs m (run_and_dot text left) r is by tight = late_settled limits bytes ts here command b bs m (run_and_dot text left) r is tt tight (brace_fits limits (begin_of command here.offset) (length bytes) m)
late_goes limits bytes ts here command b bs m (wrong code left) r is by tight = late_settled limits bytes ts here command b bs m (wrong code left) r is tt tight (brace_fits limits (begin_of command here.offset) (length bytes) m)
late_goes limits bytes ts here command b bs m _ r is by tight = absurd by

-- ---- whatever stands there

tight_of : (n : ℕ) (s : Spelling) → Kind n s → (IsBlank n s → ⊥) → Tight n s
tight_of n s (passes h) never = absurd (never h)
tight_of n s (stands h) never = h

blank_left : (n left : ℕ) → Kind n (blank left) → left ≤ n
blank_left n left (passes h) = h
blank_left n left (stands h) = absurd h

one_by : (limits : Limits) (bytes : List ℕ) (ts : List Token) (here : Place) (command : Option ℕ) (b : ℕ) (bs : List ℕ) (s : Spelling)
    → Reads false limits bytes ts here command (b ∷ bs) → spelled_front limits.name_bytes (b ∷ bs) ≡ s → Kind (length bs) s → StartsRun b bs s → Goes limits bytes ts (suc (length bs))
one_by limits bytes ts here command b bs (blank left) r is k starts =
    let le = blank_left (length bs) left k in
    blank_goes limits bytes ts here command b bs left r is (omega arith) (le_or_lt (length bytes) ((bound limits command).last + left))
one_by limits bytes ts here command b bs comment_open r is k starts = comment_goes limits bytes ts here command b bs r is (le_or_lt (length bytes) (bound limits command).last)
one_by limits bytes ts here command b bs (token kind text left) r is k starts =
    met_goes limits bytes ts here command b bs None (token kind text left) r (sym is) tt (tight_of (length bs) (token kind text left) k (λ never. never)) tt
one_by limits bytes ts here command b bs (run_and_dot text left) r is k starts =
    met_goes limits bytes ts here command b bs None (run_and_dot text left) r (sym is) tt (tight_of (length bs) (run_and_dot text left) k (λ never. never)) tt
one_by limits bytes ts here command b bs (wrong code left) r is k starts =
    met_goes limits bytes ts here command b bs None (wrong code left) r (sym is) tt (tight_of (length bs) (wrong code left) k (λ never. never)) tt
one_by limits bytes ts here command b bs (unsettled s) r is k starts =
    open_goes limits bytes ts here command b bs None s r (sym is) tt (le_or_lt (length bytes) (front_bound limits (begin_of command here.offset) (length bytes) None).last)
one_by limits bytes ts here command b bs (late m s) r is k starts =
    late_goes limits bytes ts here command b bs m s r is starts.1 (tight_of (length bs) (late m s) k (λ never. never)).1

one_goes : (limits : Limits) (bytes : List ℕ) (ts : List Token) (here : Place) (command : Option ℕ) (b : ℕ) (bs : List ℕ) → Reads false limits bytes ts here command (b ∷ bs) → Goes limits bytes ts (suc (length bs))
one_goes limits bytes ts here command b bs r =
    one_by limits bytes ts here command b bs (spelled_front limits.name_bytes (b ∷ bs)) r refl (front_kind limits.name_bytes b bs) (run_starts limits.name_bytes b bs)

-- ---- to the end of the bytes

front_waits : (limits : Limits) (bytes more : List ℕ) (ts : List Token) (here place : Place) (command : Option ℕ) (rest : List ℕ) (e : Ending) → Reads false limits bytes ts here command rest
    → tokens limits bytes broken ≡ adds ts (nothing_at place) → IsFrontOf (tokens limits bytes broken) (tokens limits (bytes ++ more) e)
front_waits limits bytes more ts here place command rest e r is =
    let old = is ∙ adds_nothing ts place in
    let next = tokens_from limits e (length (bytes ++ more)) here command (length (rest ++ more)) (rest ++ more) in
    record {
      more = next.tokens;
      tokens = ap (λ (l : Lexed). l.tokens) (r.onward more e tt) ∙ ap (λ (x : List Token). x ++ next.tokens) (sym (ap (λ (l : Lexed). l.tokens) old));
      fault = subst (λ (o : Option Code). Stays o (tokens limits bytes broken) (tokens limits (bytes ++ more) e)) (sym (ap (λ (l : Lexed). l.fault) old)) tt;
    }

front_fails : (limits : Limits) (bytes more : List ℕ) (ts : List Token) (here : Place) (code : Code) (e : Ending) → Fails false limits bytes ts here code
    → IsFrontOf (tokens limits bytes broken) (tokens limits (bytes ++ more) e)
front_fails limits bytes more ts here code e f =
    let old : tokens limits bytes broken ≡ adds ts (fault_at here code) = ap (λ (x : List ℕ). tokens limits x broken) (sym (append-nil bytes)) ∙ f.stands [] broken tt in
    let same : tokens limits (bytes ++ more) e ≡ tokens limits bytes broken = f.stands more e tt ∙ sym old in
    record {
      more = [];
      tokens = ap (λ (l : Lexed). l.tokens) same ∙ sym (append-nil (tokens limits bytes broken).tokens);
      fault = subst (λ (o : Option Code). Stays o (tokens limits bytes broken) (tokens limits (bytes ++ more) e)) (sym (ap (λ (l : Lexed). l.fault) old)) same;
    }

front_from : (n : ℕ) (limits : Limits) (bytes more : List ℕ) (ts : List Token) (here : Place) (command : Option ℕ) (rest : List ℕ) (e : Ending) → length rest ≤ n → Reads false limits bytes ts here command rest
    → IsFrontOf (tokens limits bytes broken) (tokens limits (bytes ++ more) e)
front_from n limits bytes more ts here command [] e le r =
    front_waits limits bytes more ts here here command [] e r (ap (λ (x : List ℕ). tokens limits x broken) (sym (append-nil bytes)) ∙ r.onward [] broken tt)
front_from zero limits bytes more ts here command (b ∷ bs) e le r = absurd (omega arith)
front_from (suc n) limits bytes more ts here command (b ∷ bs) e le r = elim (one_goes limits bytes ts here command b bs r) [
  | goes further place begun rest lt next ↦ front_from n limits bytes more further place begun rest e (omega arith) next
  | waits place is ↦ front_waits limits bytes more ts here place command (b ∷ bs) e r is
  | fails place code f ↦ front_fails limits bytes more ts place code e f
]

pub tokens_front : (limits : Limits) (bytes more : List ℕ) (e : Ending) → IsFrontOf (tokens limits bytes broken) (tokens limits (bytes ++ more) e)
tokens_front limits bytes more e = front_from (length bytes) limits bytes more [] (record { offset = 0; line = 1 }) None bytes e (omega arith) (reads_start limits bytes)
