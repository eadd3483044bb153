-- The next spelling, as read_found and read_comment have it at hand.
use Rattle.std.proofs.Common.{sym, ◌≡◌, ◌≤◌, ◌<◌, ℕ, Bool, true, false, List, [], ◌∷◌, ◌++◌, length, refl, ap, subst, ◌∙◌, arith}
use Rattle.std.specs.Prelude.{Option, Some, None}
use Rattle.dk_model.specs.declared.code.Code.{Code}
use Rattle.dk_model.specs.declared.limits.Limits.{Limits}
use Rattle.dk_lexer.specs.declared.token.Token.{Token}
use Rattle.dk_lexer.specs.declared.place.Place.{Place}
use Rattle.dk_lexer.specs.Spelling.{Spelling, blank, run_and_dot, token, unsettled, wrong}
use Rattle.dk_lexer.specs.Tokens.{begin_of}
use Rattle.one_lexer.specs.declared.found.Found.{Found}
use Rattle.one_lexer.specs.declared.found.Found.TheVariants as found
use Rattle.one_lexer.specs.declared.next.Next.{Next}
use Rattle.one_lexer.specs.declared.next.Next.TheVariants as next
use Rattle.one_lexer.specs.declared.next.Standing.{Standing}
use Rattle.one_lexer.specs.Bounds.{LateFails, LateFits, front_bound}
use Rattle.one_lexer.specs.Reading.{Fails, Reads}
use Rattle.one_lexer.specs.Steps.{Comes, GivesNothing, IsWithin, LeavesFewer, token_of}
use Rattle.one_lexer.specs.Views.{found_spelling, late_by, settled_by, spelled_front}
use Rattle.one_lexer.proofs.Carries.{late_fails, open_fails, open_waits}
use Rattle.one_lexer.proofs.Nexts.{Meets}
use Rattle.one_lexer.proofs.Places.{last_front}
use Rattle.one_lexer.proofs.Reading.{IsKnown, IsMet}

pub met_within : (n : ℕ) (f : Found) → IsWithin n f → IsMet (found_spelling f)
met_within n (found.Token kind text left) h = tt
met_within n (found.RunAndDot text left) h = tt
met_within n (found.Wrong code left) h = tt
met_within n (found.Blank left) h = absurd h
met_within n found.CommentOpen h = absurd h

pub known_settled : (settled over : Bool) → settled ≡ true → IsKnown settled over
known_settled true over h = refl
known_settled false over h = absurd cc

pub known_over : (settled over : Bool) → over ≡ true → IsKnown settled over
known_over true true h = refl
known_over false true h = refl
known_over settled false h = absurd cc

none_met : (settled : Bool) (brace : Option ℕ) (s : Spelling) → IsMet s → late_by brace (settled_by settled s) ≡ unsettled (blank 0) → ⊥
none_met true None (token kind text left) h e = absurd cc
none_met true None (run_and_dot text left) h e = absurd cc
none_met true None (wrong code left) h e = absurd cc
none_met false None (token kind text left) h e = absurd cc
none_met false None (run_and_dot text left) h e = absurd cc
none_met false None (wrong code left) h e = absurd cc
none_met settled (Some m) s h e = absurd cc
none_met settled brace _ h e = absurd h

-- something stands there
pub met_some : (limit : ℕ) (bytes : List ℕ) (settled : Bool) (brace : Option ℕ) (f : Found) → IsMet (found_spelling f) → late_by brace (settled_by settled (found_spelling f)) ≡ spelled_front limit bytes → 0 < length bytes
met_some limit [] settled brace f met is = absurd (none_met settled brace (found_spelling f) met is)
met_some limit (b ∷ bs) settled brace f met is = omega arith

-- the bound, by the numbers at hand
pub bound_at : (limits : Limits) (begin b total t : ℕ) (brace : Option ℕ) → begin ≡ b → total ≡ t → front_bound limits begin total brace ≡ front_bound limits b t brace
bound_at limits begin b total t brace e f = ap (λ (x : ℕ). front_bound limits x total brace) e ∙ ap (λ (x : ℕ). front_bound limits b x brace) f

pub fits_at : (limits : Limits) (begin b total t : ℕ) (brace : Option ℕ) → begin ≡ b → total ≡ t → LateFits limits begin total brace → LateFits limits b t brace
fits_at limits begin b total t brace e f h =
    subst (λ (x : ℕ). LateFits limits b x brace) f (subst (λ (x : ℕ). LateFits limits x total brace) e h)

pub fails_at : (limits : Limits) (begin b total t : ℕ) (brace : Option ℕ) (code : Code) → begin ≡ b → total ≡ t → LateFails limits begin total brace code → LateFails limits b t brace code
fails_at limits begin b total t brace code e f h =
    subst (λ (x : ℕ). LateFails limits b x brace code) f (subst (λ (x : ℕ). LateFails limits x total brace code) e h)

pub meet : (over settled : Bool) (limits : Limits) (before : List ℕ) (ts : List Token) (here : Place) (command : Option ℕ) (bytes : List ℕ) (brace : Option ℕ) (f : Found) (s : Spelling) (begin total : ℕ)
    → Reads over limits before ts here command bytes → late_by brace (settled_by settled (found_spelling f)) ≡ spelled_front limits.name_bytes bytes → IsMet (found_spelling f) → IsKnown settled over
    → LateFits limits begin total brace → begin ≡ begin_of command here.offset → total ≡ length before → found_spelling f ≡ s → Meets over limits before ts here command bytes brace s
meet over settled limits before ts here command bytes brace f s begin total r is met known fits begin_is total_is spelt = record {
  settled = settled;
  reads = r;
  is = ap (λ (x : Spelling). late_by brace (settled_by settled x)) (sym spelt) ∙ is;
  met = subst IsMet spelt met;
  known = known;
  fits = fits_at limits begin (begin_of command here.offset) total (length before) brace begin_is total_is fits;
}

-- ---- what isn't settled

pub waits_next : (over settled : Bool) (limits : Limits) (before : List ℕ) (ts : List Token) (here : Place) (command : Option ℕ) (bytes : List ℕ) (brace : Option ℕ) (f : Found) (begin total : ℕ)
    → over ≡ false → settled ≡ false → Reads over limits before ts here command bytes → IsMet (found_spelling f) → late_by brace (settled_by settled (found_spelling f)) ≡ spelled_front limits.name_bytes bytes
    → LateFits limits begin total brace → begin ≡ begin_of command here.offset → total ≡ length before
    → length before ≤ (front_bound limits (begin_of command here.offset) (length before) brace).last → GivesNothing limits before ts here
waits_next false false limits before ts here command bytes brace f begin total o s r met is fits begin_is total_is le =
    open_waits limits before bytes ts here command brace (found_spelling f) r (met_some limits.name_bytes bytes false brace f met is) is
    (fits_at limits begin (begin_of command here.offset) total (length before) brace begin_is total_is fits) le
waits_next true settled limits before ts here command bytes brace f begin total o s r met is fits begin_is total_is le = absurd cc
waits_next false true limits before ts here command bytes brace f begin total o s r met is fits begin_is total_is le = absurd cc

pub waits_past : (over settled : Bool) (limits : Limits) (before : List ℕ) (ts : List Token) (here : Place) (command : Option ℕ) (bytes : List ℕ) (brace : Option ℕ) (f : Found) (begin total : ℕ)
    → over ≡ false → settled ≡ false → Reads over limits before ts here command bytes → IsMet (found_spelling f) → late_by brace (settled_by settled (found_spelling f)) ≡ spelled_front limits.name_bytes bytes
    → LateFits limits begin total brace → begin ≡ begin_of command here.offset → total ≡ length before
    → (front_bound limits (begin_of command here.offset) (length before) brace).last < length before
    → Fails over limits before ts here (front_bound limits (begin_of command here.offset) (length before) brace).code
waits_past false false limits before ts here command bytes brace f begin total o s r met is fits begin_is total_is lt =
    open_fails limits before bytes ts here command brace (found_spelling f) r (met_some limits.name_bytes bytes false brace f met is) is
    (fits_at limits begin (begin_of command here.offset) total (length before) brace begin_is total_is fits) lt
waits_past true settled limits before ts here command bytes brace f begin total o s r met is fits begin_is total_is lt = absurd cc
waits_past false true limits before ts here command bytes brace f begin total o s r met is fits begin_is total_is lt = absurd cc

pub brace_past : (over settled : Bool) (limits : Limits) (before : List ℕ) (ts : List Token) (here : Place) (command : Option ℕ) (bytes : List ℕ) (brace : Option ℕ) (f : Found) (code : Code) (begin total : ℕ)
    → Reads over limits before ts here command bytes → IsMet (found_spelling f) → late_by brace (settled_by settled (found_spelling f)) ≡ spelled_front limits.name_bytes bytes
    → LateFails limits begin total brace code → begin ≡ begin_of command here.offset → total ≡ length before → Fails over limits before ts here code
brace_past over settled limits before ts here command bytes brace f code begin total r met is h begin_is total_is =
    late_fails over settled limits before bytes ts here command brace (found_spelling f) code r (met_some limits.name_bytes bytes settled brace f met is) met is
    (fails_at limits begin (begin_of command here.offset) total (length before) brace code begin_is total_is h)

-- ---- behind the opening sign of a comment

pub comes_last : (over : Bool) (limits : Limits) (before : List ℕ) (ts : List Token) (at : Standing) (front rest : List ℕ) (t : Next) → LeavesFewer over (length rest) t → Comes over limits before ts at rest t
    → Comes over limits before ts at (front ++ rest) t
comes_last over limits before ts at front rest (next.Token spelt behind left) fewer k =
    subst (λ (x : List ℕ). Reads over limits before (ts ++ token_of spelt ∷ []) behind.here behind.command x) (last_front front rest left (let lt : left < length rest = fewer in omega arith)) k
comes_last over limits before ts at front rest (next.Blank behind left) fewer k =
    subst (λ (x : List ℕ). Reads over limits before ts behind.here behind.command x) (last_front front rest left (let lt : left < length rest = fewer in omega arith)) k
comes_last over limits before ts at front rest (next.Comment inside) fewer k = k
comes_last over limits before ts at front rest next.More fewer k = k
comes_last over limits before ts at front rest (next.Failed code) fewer k = k

pub fewer_last : (over : Bool) (n m : ℕ) (t : Next) → n ≤ m → LeavesFewer over n t → LeavesFewer over m t
fewer_last over n m (next.Token spelt behind left) le h = omega arith
fewer_last over n m (next.Blank behind left) le h = omega arith
fewer_last over n m (next.Comment inside) le h = tt
fewer_last over n m next.More le h = h
fewer_last over n m (next.Failed code) le h = tt
