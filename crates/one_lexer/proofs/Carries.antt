-- What isn't settled, and a brace past its bound: what the bytes so far give.
use Rattle.std.proofs.Common.{inl, inr, ◌≡◌, ◌≤◌, ◌<◌, ℕ, suc, ◌+◌, Bool, true, false, ◌==◌, nat_lt, List, [], ◌∷◌, ◌++◌, length, refl, sym, ap, subst, ◌∙◌, arith, length-append}
use Rattle.std.proofs.lemmas.List.{append-nil}
use Rattle.std.proofs.lemmas.Bool.{eqb-false}
use Rattle.std.specs.Prelude.{Option, Some, None, ◌⊎◌}
use Rattle.dk_model.specs.declared.code.Code.{Code}
use Rattle.dk_model.specs.declared.code.Code.TheVariants.{E07}
use Rattle.dk_model.specs.declared.limits.Limits.{Limits}
use Rattle.dk_lexer.specs.declared.token.Token.{Token}
use Rattle.dk_lexer.specs.declared.place.Place.{Place}
use Rattle.dk_lexer.specs.Spelling.{Spelling, late, unsettled}
use Rattle.dk_lexer.specs.Tokens.{Ending, broken, Bound, Lexed, Setting, begin_of, behind, bound, by_bound, command_limit, fault_at, input_limit, late_bound, nearer, nothing_at, outcome, outcome_at, tokens, tokens_from, within}
use Rattle.dk_lexer.proofs.Bounds.{bound_same, nearer_command, nearer_within}
use Rattle.dk_lexer.proofs.Outcomes.{Leaves, begins, lt_false, over, within_false, within_true}
use Rattle.one_lexer.specs.Bounds.{LateFails, LateFits, brace_last, front_bound, late_at}
use Rattle.one_lexer.specs.Lexers.{ending_of}
use Rattle.one_lexer.specs.Reading.{Fails, MayCome, Reads, adds, setting_at}
use Rattle.one_lexer.specs.Settled.{is_settled, with_more}
use Rattle.one_lexer.specs.Views.{late_by, settled_by, spelled_front}
use Rattle.one_lexer.proofs.Covers.{Covers, Grown, GrownLate, front_covers, grows, opens_comment}
use Rattle.one_lexer.proofs.InComments.{blank_over}
use Rattle.one_lexer.proofs.Reading.{IsMet, late_passes, late_same, met_settled}
use Rattle.one_lexer.proofs.SettledLaw.{front_stays}

pub may_end : (over : Bool) → MayCome over [] (ending_of over)
may_end false = tt
may_end true = (refl, refl)

-- what the bytes so far give
pub now_is : (over : Bool) (limits : Limits) (before : List ℕ) (ts : List Token) (here : Place) (command : Option ℕ) (b : ℕ) (bs : List ℕ) (s : Spelling) (e : Ending)
    → Reads over limits before ts here command (b ∷ bs) → spelled_front limits.name_bytes (b ∷ bs) ≡ s → MayCome over [] e
    → tokens limits before e ≡ adds ts (outcome_at (setting_at limits e (length before) here command) s (λ c left. tokens_from limits e (length before) (behind here b) c left bs))
now_is over limits before ts here command b bs s e r is may =
    ap (λ (x : List ℕ). tokens limits x e) (sym (append-nil before)) ∙ r.onward [] e may
    ∙ ap (λ (x : List ℕ). adds ts (tokens_from limits e (length x) here command (suc (length (bs ++ []))) (b ∷ (bs ++ [])))) (append-nil before)
    ∙ ap (λ (x : List ℕ). adds ts (tokens_from limits e (length before) here command (suc (length x)) (b ∷ x))) (append-nil bs)
    ∙ ap (adds ts) (begins limits e (length before) here command b bs
    ∙ ap (λ (x : Spelling). outcome_at (setting_at limits e (length before) here command) x (λ c left. tokens_from limits e (length before) (behind here b) c left bs)) is)

-- ---- a brace behind a run and a dot

late_fault : (s : Setting) (begin left : ℕ) (x : Spelling) (more : Option ℕ → ℕ → Lexed) (code : Code) → LateFails s.limits begin s.total (Some left) code
    → outcome s begin (bound s.limits (Some begin)) (late left x) more ≡ fault_at s.here code
late_fault s begin left x more code (inl h) =
    within_false s (bound s.limits (Some begin)) left (by_bound s.here E07 (nat_lt s.total (input_limit s.limits + left)) (outcome s begin (late_bound s begin left) x more)) h.0 ∙ ap (fault_at s.here) (sym h.1)
late_fault s begin left x more code (inr h) =
    within_true s (bound s.limits (Some begin)) left (by_bound s.here E07 (nat_lt s.total (input_limit s.limits + left)) (outcome s begin (late_bound s begin left) x more)) h.0
    ∙ ap (λ (t : Bool). by_bound s.here E07 t (outcome s begin (late_bound s begin left) x more)) (lt_false s.total (input_limit s.limits + left) h.1.0)
    ∙ ap (fault_at s.here) (sym h.1.1)

late_stands : (s : Setting) (begin left total n : ℕ) (x : Spelling) (more : Option ℕ → ℕ → Lexed) (code : Code) → s.total ≡ total + n → LateFails s.limits begin total (Some left) code
    → outcome s begin (bound s.limits (Some begin)) (late (left + n) x) more ≡ fault_at s.here code
late_stands s begin left total n x more code is (inl h) =
    let past : (bound s.limits (Some begin)).last + left < total = h.0 in
    late_fault s begin (left + n) x more code (inl ((omega arith), h.1))
late_stands s begin left total n x more code is (inr h) =
    let fits : total ≤ (bound s.limits (Some begin)).last + left = h.0 in
    let past : input_limit s.limits + left ≤ total = h.1.0 in
    late_fault s begin (left + n) x more code (inr ((omega arith), ((omega arith), h.1.1)))

-- with more bytes behind, the brace stands where it stood
pub record Later (m n : ℕ) (new : Spelling) : Type 0 where
  pub inner : Spelling
  pub is : new ≡ late (m + n) inner

later_by : (limit b : ℕ) (bs more : List ℕ) (m : ℕ) (settled : Bool) (s : Spelling) → IsMet s → late m (settled_by settled s) ≡ spelled_front limit (b ∷ bs) → Later m (length more) (spelled_front limit (b ∷ (bs ++ more)))
later_by limit b bs more m true s met is =
    let settled : is_settled (spelled_front limit (b ∷ bs)) ≡ true = ap is_settled (sym is) ∙ met_settled s met in
    record { inner = with_more (length more) s; is = front_stays limit (b ∷ bs) more settled ∙ ap (with_more (length more)) (sym is) }
later_by limit b bs more m false s met is =
    let grown : GrownLate m (length more) (spelled_front limit (b ∷ (bs ++ more))) =
    subst (λ (x : Spelling). Covers (suc (length bs)) (length more) x (spelled_front limit (b ∷ (bs ++ more)))) (sym is) (front_covers limit b bs more) in
    record { inner = grown.inner; is = grown.is }

late_fails_by : (over settled : Bool) (limits : Limits) (before : List ℕ) (ts : List Token) (here : Place) (command : Option ℕ) (b : ℕ) (bs : List ℕ) (brace : Option ℕ) (s : Spelling) (code : Code)
    → Reads over limits before ts here command (b ∷ bs) → IsMet s → late_by brace (settled_by settled s) ≡ spelled_front limits.name_bytes (b ∷ bs)
    → LateFails limits (begin_of command here.offset) (length before) brace code → Fails over limits before ts here code
late_fails_by over settled limits before ts here command b bs None s code r met is h = absurd h
late_fails_by over settled limits before ts here command b bs (Some left) s code r met is h = record {
  stands = λ more e may.
      let n = length-append before more in
      let total = length (before ++ more) in
      let at = setting_at limits e total here command in
      let k = later_by limits.name_bytes b bs more left settled s met is in
      r.onward more e may
      ∙ ap (adds ts) (begins limits e total here command b (bs ++ more)
      ∙ ap (λ (x : Spelling). outcome_at at x (λ c left. tokens_from limits e total (behind here b) c left (bs ++ more))) k.is
      ∙ late_stands at (begin_of command here.offset) left (length before) (length more) k.inner (λ c left. tokens_from limits e total (behind here b) c left (bs ++ more)) code n h);
}

pub late_fails : (over settled : Bool) (limits : Limits) (before bytes : List ℕ) (ts : List Token) (here : Place) (command : Option ℕ) (brace : Option ℕ) (s : Spelling) (code : Code)
    → Reads over limits before ts here command bytes → 0 < length bytes → IsMet s → late_by brace (settled_by settled s) ≡ spelled_front limits.name_bytes bytes
    → LateFails limits (begin_of command here.offset) (length before) brace code → Fails over limits before ts here code
late_fails over settled limits before [] ts here command brace s code r some met is h = absurd (omega arith)
late_fails over settled limits before (b ∷ bs) ts here command brace s code r some met is h = late_fails_by over settled limits before ts here command b bs brace s code r met is h

-- ---- what isn't settled

open_by : (limits : Limits) (before : List ℕ) (ts : List Token) (here : Place) (command : Option ℕ) (b : ℕ) (bs : List ℕ) (brace : Option ℕ) (s : Spelling)
    → Reads false limits before ts here command (b ∷ bs) → late_by brace (unsettled s) ≡ spelled_front limits.name_bytes (b ∷ bs) → LateFits limits (begin_of command here.offset) (length before) brace
    → tokens limits before broken ≡ adds ts (within (setting_at limits broken (length before) here command) (front_bound limits (begin_of command here.offset) (length before) brace) 0 (nothing_at here))
open_by limits before ts here command b bs None s r is fits = now_is false limits before ts here command b bs (unsettled s) broken r (sym is) tt
open_by limits before ts here command b bs (Some left) s r is fits =
    let at = setting_at limits broken (length before) here command in
    let begin = begin_of command here.offset in
    now_is false limits before ts here command b bs (late left (unsettled s)) broken r (sym is) tt
    ∙ ap (adds ts) (late_passes at begin left 0 (unsettled s) (λ c left. tokens_from limits broken (length before) (behind here b) c left bs) (late_at limits begin (length before) left) fits.0 fits.1 refl)

pub open_waits : (limits : Limits) (before bytes : List ℕ) (ts : List Token) (here : Place) (command : Option ℕ) (brace : Option ℕ) (s : Spelling)
    → Reads false limits before ts here command bytes → 0 < length bytes → late_by brace (unsettled s) ≡ spelled_front limits.name_bytes bytes → LateFits limits (begin_of command here.offset) (length before) brace
    → length before ≤ (front_bound limits (begin_of command here.offset) (length before) brace).last → tokens limits before broken ≡ adds ts (nothing_at here)
open_waits limits before [] ts here command brace s r some is fits le = absurd (omega arith)
open_waits limits before (b ∷ bs) ts here command brace s r some is fits le =
    open_by limits before ts here command b bs brace s r is fits
    ∙ ap (adds ts) (within_true (setting_at limits broken (length before) here command) (front_bound limits (begin_of command here.offset) (length before) brace) 0 (nothing_at here) (omega arith))

-- past its bound: a comment that begins with the byte past it has the bound of the command before
grown_over : (s : Setting) (size n : ℕ) (x : Spelling) (more : Option ℕ → ℕ → Lexed) → Grown size n x → s.total ≡ (s.here.offset + size) + n
    → (bound s.limits (Some (begin_of s.command s.here.offset))).last + n < s.total → outcome_at s x more ≡ fault_at s.here (bound s.limits (Some (begin_of s.command s.here.offset))).code
grown_over s size n x more (grows leaves) total past =
    over s (begin_of s.command s.here.offset) (bound s.limits (Some (begin_of s.command s.here.offset))) n x more leaves past
grown_over s size n x more (opens_comment one blank) total past =
    let same : bound s.limits (Some (begin_of s.command s.here.offset)) ≡ bound s.limits s.command = bound_same s.limits s.command s.here.offset (omega arith) in
    let last : (bound s.limits s.command).last + n < s.total = subst (λ (b : Bound). b.last + n < s.total) same past in
    blank_over s n x more blank last ∙ ap (λ (b : Bound). fault_at s.here b.code) (sym same)

-- a brace that the bytes end with is within its bound
brace_within_by : (t : Bool) (last input total : ℕ) → (last + 1 == total) ≡ t → total ≤ last + 1 → total ≤ input → total ≤ (nearer (brace_last t last) input).last
brace_within_by true last input total is le within_it = nearer_within (last + 1) input total le within_it
brace_within_by false last input total is le within_it =
    let not_it = eqb-false (last + 1) total is in
    nearer_within last input total (omega arith) within_it

own_last : (limits : Limits) (begin : ℕ) → (bound limits (Some begin)).last ≤ begin + command_limit limits
unfolding bound
own_last limits begin = nearer_command (begin + command_limit limits) (input_limit limits) (bound limits (Some begin)).last (omega arith)

brace_within : (limits : Limits) (begin total : ℕ) → LateFits limits begin total (Some 1) → total ≤ (late_at limits begin total 1).last
brace_within limits begin total fits =
    let last = begin + command_limit limits in
    let own = own_last limits begin in
    let at : total ≤ (bound limits (Some begin)).last + 1 = fits.0 in
    let input : total < input_limit limits + 1 = fits.1 in
    brace_within_by (last + 1 == total) last (input_limit limits) total refl (omega arith) (omega arith)

late_over : (s : Setting) (begin m total n : ℕ) (x : Spelling) (more : Option ℕ → ℕ → Lexed) → (Leaves n x) ⊎ (m ≡ 1) → s.total ≡ total + n → LateFits s.limits begin total (Some m)
    → (late_at s.limits begin total m).last < total → outcome s begin (late_at s.limits begin total m) x more ≡ fault_at s.here (late_at s.limits begin total m).code
late_over s begin m total n x more (inl leaves) is fits past = over s begin (late_at s.limits begin total m) n x more leaves (omega arith)
late_over s begin m total n x more (inr one) is fits past =
    let fits_one : LateFits s.limits begin total (Some 1) = subst (λ (k : ℕ). LateFits s.limits begin total (Some k)) one fits in
    let past_one : (late_at s.limits begin total 1).last < total = subst (λ (k : ℕ). (late_at s.limits begin total k).last < total) one past in
    let within_it = brace_within s.limits begin total fits_one in
    absurd (omega arith)

open_fails_by : (limits : Limits) (before : List ℕ) (ts : List Token) (here : Place) (command : Option ℕ) (b : ℕ) (bs : List ℕ) (brace : Option ℕ) (s : Spelling)
    → Reads false limits before ts here command (b ∷ bs) → late_by brace (unsettled s) ≡ spelled_front limits.name_bytes (b ∷ bs) → LateFits limits (begin_of command here.offset) (length before) brace
    → (front_bound limits (begin_of command here.offset) (length before) brace).last < length before
    → Fails false limits before ts here (front_bound limits (begin_of command here.offset) (length before) brace).code
open_fails_by limits before ts here command b bs None s r is fits lt = record {
  stands = λ more e may.
      let n = length-append before more in
      let size = r.total in
      let total = length (before ++ more) in
      let at = setting_at limits e total here command in
      let grown : Grown (suc (length bs)) (length more) (spelled_front limits.name_bytes (b ∷ (bs ++ more))) =
      subst (λ (x : Spelling). Covers (suc (length bs)) (length more) x (spelled_front limits.name_bytes (b ∷ (bs ++ more)))) (sym is) (front_covers limits.name_bytes b bs more) in
      r.onward more e may
      ∙ ap (adds ts) (begins limits e total here command b (bs ++ more)
      ∙ grown_over at (suc (length bs)) (length more) (spelled_front limits.name_bytes (b ∷ (bs ++ more))) (λ c left. tokens_from limits e total (behind here b) c left (bs ++ more)) grown (omega arith) (omega arith));
}
open_fails_by limits before ts here command b bs (Some m) s r is fits lt = record {
  stands = λ more e may.
      let n = length-append before more in
      let total = length (before ++ more) in
      let at = setting_at limits e total here command in
      let begin = begin_of command here.offset in
      let within_it : length before ≤ (bound limits (Some begin)).last + m = fits.0 in
      let input : length before < input_limit limits + m = fits.1 in
      let grown : GrownLate m (length more) (spelled_front limits.name_bytes (b ∷ (bs ++ more))) =
      subst (λ (x : Spelling). Covers (suc (length bs)) (length more) x (spelled_front limits.name_bytes (b ∷ (bs ++ more)))) (sym is) (front_covers limits.name_bytes b bs more) in
      r.onward more e may
      ∙ ap (adds ts) (begins limits e total here command b (bs ++ more)
      ∙ ap (λ (x : Spelling). outcome_at at x (λ c left. tokens_from limits e total (behind here b) c left (bs ++ more))) grown.is
      ∙ late_passes at begin (m + length more) 0 grown.inner (λ c left. tokens_from limits e total (behind here b) c left (bs ++ more)) (late_at limits begin (length before) m)
      (omega arith) (omega arith) (late_same limits begin (length before) m (length more) total (m + length more) n refl)
      ∙ late_over at begin m (length before) (length more) grown.inner (λ c left. tokens_from limits e total (behind here b) c left (bs ++ more)) grown.leaves n fits lt);
}

pub open_fails : (limits : Limits) (before bytes : List ℕ) (ts : List Token) (here : Place) (command : Option ℕ) (brace : Option ℕ) (s : Spelling)
    → Reads false limits before ts here command bytes → 0 < length bytes → late_by brace (unsettled s) ≡ spelled_front limits.name_bytes bytes → LateFits limits (begin_of command here.offset) (length before) brace
    → (front_bound limits (begin_of command here.offset) (length before) brace).last < length before
    → Fails false limits before ts here (front_bound limits (begin_of command here.offset) (length before) brace).code
open_fails limits before [] ts here command brace s r some is fits lt = absurd (omega arith)
open_fails limits before (b ∷ bs) ts here command brace s r some is fits lt = open_fails_by limits before ts here command b bs brace s r is fits lt
