-- One spelling after the other: what stands next gives, whatever comes behind.
use Rattle.std.proofs.Common.{◌≡◌, ◌≤◌, ◌<◌, ℕ, suc, ◌+◌, Bool, true, false, not, ◌&&◌, ◌==◌, nat_lt, List, [], ◌∷◌, ◌++◌, length, refl, sym, ap, subst, ◌∙◌, arith, length-append, append_assoc}
use Rattle.std.proofs.lemmas.List.{append-nil}
use Rattle.std.proofs.lemmas.Bool.{eqb-true, eqb-false}
use Rattle.std.specs.Prelude.{Option, Some, None}
use Rattle.dk_model.specs.declared.code.Code.{Code}
use Rattle.dk_model.specs.declared.code.Code.TheVariants.{E07}
use Rattle.dk_model.specs.declared.limits.Limits.{Limits}
use Rattle.dk_lexer.specs.declared.token.Token.{Token}
use Rattle.dk_lexer.specs.declared.token.TokenKind.{TokenKind}
use Rattle.dk_lexer.specs.declared.place.Place.{Place}
use Rattle.one_lexer.specs.Places.{place_behind}
use Rattle.dk_lexer.specs.Spelling.{Spelling, blank, token, wrong, run_and_dot, comment_open, unsettled, late, spelled}
use Rattle.dk_lexer.specs.Tokens.{Ending, whole, Lexed, Setting, Bound, at_end, begin_of, behind, bound, by_bound, command_after, command_limit, fault_at, gives, input_limit, late_bound, nearer, nothing_at, outcome, outcome_at, token_at, tokens, tokens_from, within}
use Rattle.dk_lexer.proofs.Outcomes.{Leaves, begins, lt_true, over, skip, within_true}
use Rattle.one_lexer.specs.Bounds.{LateFits, brace_last, front_bound, late_at}
use Rattle.one_lexer.specs.Reading.{Fails, MayCome, Reads, adds, setting_at}
use Rattle.one_lexer.specs.Settled.{is_settled, with_more}
use Rattle.one_lexer.specs.Views.{late_by, settled_by, spelled_front}
use Rattle.one_lexer.proofs.Places.{place_offset}
use Rattle.one_lexer.proofs.SettledLaw.{front_stays}

-- bytes that are part of what stands before are passed over
pub skip_all : (limits : Limits) (e : Ending) (total : ℕ) (here : Place) (command : Option ℕ) (left : ℕ) (front rest : List ℕ) → left ≤ length rest
    → tokens_from limits e total here command left (front ++ rest) ≡ tokens_from limits e total (place_behind here front) command left rest
skip_all limits e total here command left [] rest le = refl
skip_all limits e total here command left (b ∷ front) rest le =
    let n = length-append front rest in
    skip limits e total here command left b (front ++ rest) (omega arith) ∙ skip_all limits e total (behind here b) command left front rest le

pub adds_gives : (ts : List Token) (t : Token) (lexed : Lexed) → adds ts (gives t lexed) ≡ adds (ts ++ t ∷ []) lexed
adds_gives ts t lexed = ap (λ (x : List Token). let l : Lexed = record lexed { tokens = x } in l) (sym (append_assoc ts (t ∷ []) lexed.tokens))

pub adds_nothing : (ts : List Token) (here : Place) → adds ts (nothing_at here) ≡ record { tokens = ts; fault = None; line = here.line }
adds_nothing ts here = ap (λ (x : List Token). let l : Lexed = record { tokens = x; fault = None; line = here.line } in l) (append-nil ts)

pub adds_fault : (ts : List Token) (here : Place) (code : Code) → adds ts (fault_at here code) ≡ record { tokens = ts; fault = Some code; line = here.line }
adds_fault ts here code = ap (λ (x : List Token). let l : Lexed = record { tokens = x; fault = Some code; line = here.line } in l) (append-nil ts)

-- what is behind a spelling
pub behind_it : (limits : Limits) (e : Ending) (total : ℕ) (here : Place) (command : Option ℕ) (bs front rest more : List ℕ) → bs ≡ front ++ rest
    → tokens_from limits e total here command (length rest + length more) (bs ++ more) ≡ tokens_from limits e total (place_behind here front) command (length (rest ++ more)) (rest ++ more)
behind_it limits e total here command bs front rest more is =
    ap (λ k. tokens_from limits e total here command k (bs ++ more)) (sym (length-append rest more))
    ∙ ap (λ (x : List ℕ). tokens_from limits e total here command (length (rest ++ more)) x) (ap (λ (x : List ℕ). x ++ more) is ∙ append_assoc front rest more)
    ∙ skip_all limits e total here command (length (rest ++ more)) front (rest ++ more) (omega arith)

-- ---- what the end settles

plus_none : (n : ℕ) → n + 0 ≡ n
plus_none n = omega arith

with_none : (s : Spelling) → with_more 0 s ≡ s
with_none (blank left) = ap blank (plus_none left)
with_none (token kind text left) = ap (token kind text) (plus_none left)
with_none (run_and_dot text left) = ap (run_and_dot text) (plus_none left)
with_none (wrong code left) = ap (wrong code) (plus_none left)
with_none comment_open = refl
with_none (unsettled s) = refl
with_none (late left s) = ap (λ n. late n (with_more 0 s)) (plus_none left) ∙ ap (late left) (with_none s)

-- what stands there once it is settled
abbrev pub final : Spelling → Spelling
final (unsettled s) = s
final (late left s) = late left (final s)
final s = s

final_settled : (s : Spelling) → is_settled s ≡ true → final s ≡ s
final_settled (unsettled s) h = absurd cc
final_settled (late left s) h = ap (late left) (final_settled s h)
final_settled _ h = refl

final_whole : (s : Setting) (begin : ℕ) (bd : Bound) (x : Spelling) (more : Option ℕ → ℕ → Lexed) → s.ending ≡ whole → outcome s begin bd x more ≡ outcome s begin bd (final x) more
final_whole s begin bd (unsettled x) more h = ap (λ (e : Ending). at_end e (outcome s begin bd x more) (within s bd 0 (nothing_at s.here))) h
final_whole s begin bd (late left x) more h =
    ap (λ (y : Lexed). within s bd left (by_bound s.here E07 (nat_lt s.total (input_limit s.limits + left)) y)) (final_whole s begin (late_bound s begin left) x more h)
final_whole s begin bd _ more h = refl

-- ---- what stands next

-- what is given from these bytes on, where this stands at the first
abbrev pub given_at : Limits → Ending → ℕ → Place → Option ℕ → ℕ → List ℕ → Spelling → Lexed
given_at limits e total here command b bs s = outcome_at (setting_at limits e total here command) s (λ c left. tokens_from limits e total (behind here b) c left bs)

-- what stands there is settled, or the end settles it
abbrev pub Decided : Bool → Spelling → Type 0
Decided false s = is_settled s ≡ true
Decided true s = Unit {0}

abbrev NextIs : Limits → List ℕ → List Token → Place → Option ℕ → ℕ → List ℕ → Spelling → List ℕ → Ending → Type 0
NextIs limits bytes ts here command b bs s more e =
    tokens limits (bytes ++ more) e ≡ adds ts (given_at limits e (length (bytes ++ more)) here command b (bs ++ more) (with_more (length more) (final s)))

next_settled : (limits : Limits) (bytes : List ℕ) (ts : List Token) (here : Place) (command : Option ℕ) (b : ℕ) (bs : List ℕ) (s : Spelling) (more : List ℕ) (e : Ending)
    → Reads false limits bytes ts here command (b ∷ bs) → spelled_front limits.name_bytes (b ∷ bs) ≡ s → is_settled s ≡ true → NextIs limits bytes ts here command b bs s more e
next_settled limits bytes ts here command b bs s more e r is settled =
    r.onward more e tt
    ∙ ap (adds ts) (begins limits e (length (bytes ++ more)) here command b (bs ++ more)
    ∙ ap (given_at limits e (length (bytes ++ more)) here command b (bs ++ more))
    (front_stays limits.name_bytes (b ∷ bs) more (ap is_settled is ∙ settled) ∙ ap (with_more (length more)) (is ∙ sym (final_settled s settled))))

next_ended : (limits : Limits) (bytes : List ℕ) (ts : List Token) (here : Place) (command : Option ℕ) (b : ℕ) (bs : List ℕ) (s : Spelling)
    → Reads true limits bytes ts here command (b ∷ bs) → spelled_front limits.name_bytes (b ∷ bs) ≡ s → NextIs limits bytes ts here command b bs s [] whole
next_ended limits bytes ts here command b bs s r is =
    let total = length (bytes ++ []) in
    let at = setting_at limits whole total here command in
    r.onward [] whole (refl, refl)
    ∙ ap (adds ts) (begins limits whole total here command b (bs ++ [])
    ∙ ap (given_at limits whole total here command b (bs ++ [])) (ap (spelled limits.name_bytes b) (append-nil bs) ∙ is)
    ∙ final_whole at (begin_of command here.offset) (bound limits (Some (begin_of command here.offset))) s (λ c left. tokens_from limits whole total (behind here b) c left (bs ++ [])) refl
    ∙ ap (given_at limits whole total here command b (bs ++ [])) (sym (with_none (final s))))

pub next_is : (over : Bool) (limits : Limits) (bytes : List ℕ) (ts : List Token) (here : Place) (command : Option ℕ) (b : ℕ) (bs : List ℕ) (s : Spelling) (more : List ℕ) (e : Ending)
    → Reads over limits bytes ts here command (b ∷ bs) → spelled_front limits.name_bytes (b ∷ bs) ≡ s → Decided over s → MayCome over more e → NextIs limits bytes ts here command b bs s more e
next_is false limits bytes ts here command b bs s more e r is settled may = next_settled limits bytes ts here command b bs s more e r is settled
next_is true limits bytes ts here command b bs s more e r is settled may =
    subst (λ (x : List ℕ). NextIs limits bytes ts here command b bs s x e) (sym may.0)
    (subst (λ (y : Ending). NextIs limits bytes ts here command b bs s [] y) (sym may.1) (next_ended limits bytes ts here command b bs s r is))

-- ---- within its bound

-- what stands next gives this, whatever comes behind; so many bytes are left at a brace behind a run and a dot
pub record Gives (over : Bool) (limits : Limits) (bytes : List ℕ) (ts : List Token) (here : Place) (command : Option ℕ) (b : ℕ) (bs : List ℕ) (brace : Option ℕ) (s : Spelling) : Type 0 where
  pub onward : (more : List ℕ) (e : Ending) → MayCome over more e → tokens limits (bytes ++ more) e
      ≡ adds ts (outcome (setting_at limits e (length (bytes ++ more)) here command) (begin_of command here.offset) (front_bound limits (begin_of command here.offset) (length bytes) brace)
      (with_more (length more) s) (λ c left. tokens_from limits e (length (bytes ++ more)) (behind here b) c left (bs ++ more)))

gives_plain : (over : Bool) (limits : Limits) (bytes : List ℕ) (ts : List Token) (here : Place) (command : Option ℕ) (b : ℕ) (bs : List ℕ) (s x : Spelling)
    → Reads over limits bytes ts here command (b ∷ bs) → spelled_front limits.name_bytes (b ∷ bs) ≡ s → Decided over s → final s ≡ x → Gives over limits bytes ts here command b bs None x
gives_plain over limits bytes ts here command b bs s x r is settled last = record {
  onward = λ more e may.
      next_is over limits bytes ts here command b bs s more e r is settled may
      ∙ ap (λ (y : Spelling). adds ts (given_at limits e (length (bytes ++ more)) here command b (bs ++ more) (with_more (length more) y))) last;
}

same_by : (t u : Bool) (a b c d : ℕ) → (a == b) ≡ t → (c == d) ≡ u → (a ≡ b → c ≡ d) → (c ≡ d → a ≡ b) → t ≡ u
same_by true true a b c d p q f g = refl
same_by false false a b c d p q f g = refl
same_by true false a b c d p q f g = absurd (eqb-false c d q (f (eqb-true a b p)))
same_by false true a b c d p q f g = absurd (eqb-false a b p (g (eqb-true c d q)))

pub same_test : (a b c d : ℕ) → (a ≡ b → c ≡ d) → (c ≡ d → a ≡ b) → (a == b) ≡ (c == d)
same_test a b c d f g = same_by (a == b) (c == d) a b c d refl refl f g

pub late_same : (limits : Limits) (begin total left n m k : ℕ) → m ≡ total + n → k ≡ left + n → late_at limits begin m k ≡ late_at limits begin total left
late_same limits begin total left n m k e f =
    let last = begin + command_limit limits in
    ap (λ (t : Bool). nearer (brace_last t last) (input_limit limits)) (same_test (last + k) m (last + left) total (λ p. omega arith) (λ p. omega arith))

pub late_passes : (s : Setting) (begin left m : ℕ) (x : Spelling) (more : Option ℕ → ℕ → Lexed) (bd : Bound)
    → s.total ≤ (bound s.limits (Some begin)).last + left → s.total < input_limit s.limits + left → late_bound s begin left ≡ bd
    → outcome s begin (bound s.limits (Some begin)) (late left x) more ≡ outcome s begin bd x more
late_passes s begin left m x more bd fits input is =
    within_true s (bound s.limits (Some begin)) left (by_bound s.here E07 (nat_lt s.total (input_limit s.limits + left)) (outcome s begin (late_bound s begin left) x more)) fits
    ∙ ap (λ (t : Bool). by_bound s.here E07 t (outcome s begin (late_bound s begin left) x more)) (lt_true s.total (input_limit s.limits + left) input)
    ∙ ap (λ (y : Bound). outcome s begin y x more) is

gives_late : (over : Bool) (limits : Limits) (bytes : List ℕ) (ts : List Token) (here : Place) (command : Option ℕ) (b : ℕ) (bs : List ℕ) (s x : Spelling) (left : ℕ)
    → Reads over limits bytes ts here command (b ∷ bs) → spelled_front limits.name_bytes (b ∷ bs) ≡ s → Decided over s → final s ≡ late left x
    → LateFits limits (begin_of command here.offset) (length bytes) (Some left) → Gives over limits bytes ts here command b bs (Some left) x
gives_late over limits bytes ts here command b bs s x left r is settled last fits = record {
  onward = λ more e may.
      let n = length-append bytes more in
      let at = setting_at limits e (length (bytes ++ more)) here command in
      let begin = begin_of command here.offset in
      let within_it : length bytes ≤ (bound limits (Some begin)).last + left = fits.0 in
      let input : length bytes < input_limit limits + left = fits.1 in
      next_is over limits bytes ts here command b bs s more e r is settled may
      ∙ ap (λ (y : Spelling). adds ts (given_at limits e (length (bytes ++ more)) here command b (bs ++ more) (with_more (length more) y))) last
      ∙ ap (adds ts) (late_passes at begin (left + length more) 0 (with_more (length more) x) (λ c left. tokens_from limits e (length (bytes ++ more)) (behind here b) c left (bs ++ more)) (late_at limits begin (length bytes) left)
      (omega arith) (omega arith) (late_same limits begin (length bytes) left (length more) (length (bytes ++ more)) (left + length more) n refl));
}

-- ---- as the code finds it

-- it is settled, or the end was met
abbrev pub IsKnown : Bool → Bool → Type 0
IsKnown settled over = (not settled && not over) ≡ false

-- a token or a fault
abbrev pub IsMet : Spelling → Type 0
IsMet (token kind text left) = Unit {0}
IsMet (run_and_dot text left) = Unit {0}
IsMet (wrong code left) = Unit {0}
IsMet _ = ⊥

pub met_settled : (s : Spelling) → IsMet s → is_settled s ≡ true
met_settled (token kind text left) h = refl
met_settled (run_and_dot text left) h = refl
met_settled (wrong code left) h = refl
met_settled _ h = absurd h

met_final : (s : Spelling) → IsMet s → final s ≡ s
met_final s h = final_settled s (met_settled s h)

decided_by : (settled over : Bool) (brace : Option ℕ) (s : Spelling) → IsMet s → IsKnown settled over → Decided over (late_by brace (settled_by settled s))
decided_by settled true brace s met known = tt
decided_by true false None s met known = met_settled s met
decided_by true false (Some left) s met known = met_settled s met
decided_by false false brace s met known = absurd cc

final_by : (settled : Bool) (brace : Option ℕ) (s : Spelling) → IsMet s → final (late_by brace (settled_by settled s)) ≡ late_by brace s
final_by true None s met = met_final s met
final_by false None s met = refl
final_by true (Some left) s met = ap (late left) (met_final s met)
final_by false (Some left) s met = refl

pub gives_found : (over settled : Bool) (limits : Limits) (bytes : List ℕ) (ts : List Token) (here : Place) (command : Option ℕ) (b : ℕ) (bs : List ℕ) (brace : Option ℕ) (s : Spelling)
    → Reads over limits bytes ts here command (b ∷ bs) → late_by brace (settled_by settled s) ≡ spelled_front limits.name_bytes (b ∷ bs) → IsMet s → IsKnown settled over
    → LateFits limits (begin_of command here.offset) (length bytes) brace → Gives over limits bytes ts here command b bs brace s
gives_found over settled limits bytes ts here command b bs None s r is met known fits =
    gives_plain over limits bytes ts here command b bs (settled_by settled s) s r (sym is) (decided_by settled over None s met known) (final_by settled None s met)
gives_found over settled limits bytes ts here command b bs (Some left) s r is met known fits =
    gives_late over limits bytes ts here command b bs (late left (settled_by settled s)) s left r (sym is) (decided_by settled over (Some left) s met known) (final_by settled (Some left) s met) fits

-- ---- what it comes to

pub token_comes : (over : Bool) (limits : Limits) (bytes : List ℕ) (ts : List Token) (here : Place) (command : Option ℕ) (b : ℕ) (bs : List ℕ) (brace : Option ℕ) (kind : TokenKind) (text front rest : List ℕ)
    → length bytes ≡ here.offset + suc (length bs) → Gives over limits bytes ts here command b bs brace (token kind text (length rest)) → bs ≡ front ++ rest
    → length bytes ≤ (front_bound limits (begin_of command here.offset) (length bytes) brace).last + length rest
    → Reads over limits bytes (ts ++ token_at here kind text ∷ []) (place_behind here (b ∷ front)) (command_after kind (begin_of command here.offset)) rest
token_comes over limits bytes ts here command b bs brace kind text front rest size g split fits =
    let begin = begin_of command here.offset in
    let o = place_offset here (b ∷ front) in
    let k : length bs ≡ length front + length rest = ap length split ∙ length-append front rest in
    record {
      total = omega arith;
      onward = λ more e may.
          let n = length-append bytes more in
          let total = length (bytes ++ more) in
          let s = setting_at limits e total here command in
          let next = tokens_from limits e total (behind here b) (command_after kind begin) (length rest + length more) (bs ++ more) in
          g.onward more e may
          ∙ ap (adds ts) (within_true s (front_bound limits begin (length bytes) brace) (length rest + length more) (gives (token_at here kind text) next) (omega arith))
          ∙ adds_gives ts (token_at here kind text) next
          ∙ ap (adds (ts ++ token_at here kind text ∷ [])) (behind_it limits e total (behind here b) (command_after kind begin) bs front rest more split);
    }

-- so many bytes are left, of a token or a fault
abbrev pub LeftIs : Spelling → ℕ → Type 0
LeftIs (token kind text left) n = left ≡ n
LeftIs (run_and_dot text left) n = left ≡ n
LeftIs (wrong code left) n = left ≡ n
LeftIs _ n = ⊥

left_leaves : (s : Spelling) (left n : ℕ) → LeftIs s left → Leaves (left + n) (with_more n s)
left_leaves (token kind text m) left n h = omega arith
left_leaves (run_and_dot text m) left n h = omega arith
left_leaves (wrong code m) left n h = omega arith
left_leaves (blank m) left n h = absurd h
left_leaves comment_open left n h = absurd h
left_leaves (unsettled s) left n h = absurd h
left_leaves (late m s) left n h = absurd h

-- past its bound
pub past_fails : (by_end : Bool) (limits : Limits) (bytes : List ℕ) (ts : List Token) (here : Place) (command : Option ℕ) (b : ℕ) (bs : List ℕ) (brace : Option ℕ) (s : Spelling) (left : ℕ)
    → Gives by_end limits bytes ts here command b bs brace s → LeftIs s left → (front_bound limits (begin_of command here.offset) (length bytes) brace).last + left < length bytes
    → Fails by_end limits bytes ts here (front_bound limits (begin_of command here.offset) (length bytes) brace).code
past_fails by_end limits bytes ts here command b bs brace s left g is past = record {
  stands = λ more e may.
      let n = length-append bytes more in
      let total = length (bytes ++ more) in
      let begin = begin_of command here.offset in
      g.onward more e may
      ∙ ap (adds ts) (over (setting_at limits e total here command) begin (front_bound limits begin (length bytes) brace) (left + length more) (with_more (length more) s)
      (λ c left. tokens_from limits e total (behind here b) c left (bs ++ more)) (left_leaves s left (length more) is) (omega arith));
}

pub wrong_fails : (by_end : Bool) (limits : Limits) (bytes : List ℕ) (ts : List Token) (here : Place) (command : Option ℕ) (b : ℕ) (bs : List ℕ) (brace : Option ℕ) (code : Code) (left : ℕ)
    → Gives by_end limits bytes ts here command b bs brace (wrong code left) → length bytes ≤ (front_bound limits (begin_of command here.offset) (length bytes) brace).last + left
    → Fails by_end limits bytes ts here code
wrong_fails by_end limits bytes ts here command b bs brace code left g fits = record {
  stands = λ more e may.
      let n = length-append bytes more in
      let total = length (bytes ++ more) in
      let begin = begin_of command here.offset in
      g.onward more e may
      ∙ ap (adds ts) (within_true (setting_at limits e total here command) (front_bound limits begin (length bytes) brace) (left + length more) (fault_at here code) (omega arith));
}
