-- What is read from the fields of a book.
use Rattle.std.proofs.Common.{◌≡◌, ℕ, zero, suc, ◌<◌, Bool, true, false, cond, List, [], ◌∷◌, length, get_or, sym, refl, ap, ◌∙◌, arith, Option, Some, None, IfSome}
use Rattle.std.specs.Prelude.{slice_get}
use Rattle.dk_model.specs.declared.code.Verdict.{Verdict}
use Rattle.dk_model.specs.declared.code.Verdict.TheVariants.{Accepted}
use Rattle.board_core.specs.declared.event.Event.{Event}
use Rattle.board_core.specs.declared.book.Posted.{Posted}
use Rattle.board_core.specs.Events.{IsFirstFault, answered_verdict, verdict_at, is_settled}
use Rattle.board_core.specs.Machine.{marks_of}
use Rattle.board_core.specs.Kept.{IsFaultOf, jobs_in}
use Rattle.board_core.specs.Shown.{blanks}

pub fault_first : (es : List Event) (f : Option (ℕ × Verdict)) → IsFaultOf es f → IfSome f (λ f. IsFirstFault es f.0 f.1)
fault_first es None h = tt
fault_first es (Some f) h = h.0

pub count_jobs : {J : Type 0} (items : List (Posted J)) → length (jobs_in items) ≡ length items
count_jobs [] = refl
count_jobs (p ∷ items) = ap suc (count_jobs items)

pub posted_mark : {J : Type 0} (items : List (Posted J)) (i : ℕ) (r : Posted J) → i < length items → r ≡ get_or items i r → r.settled ≡ get_or (marks_of (jobs_in items)) i false
posted_mark [] i r h e = absurd (omega arith)
posted_mark (p ∷ items) zero r h e = ap (λ q. q.settled) e
posted_mark (p ∷ items) (suc i) r h e = posted_mark items i r (omega arith) e

pub settled_verdict : (marks : List Bool) (es : List Event) (n : ℕ) → is_settled marks n ≡ true → ◌≡◌ {A = Option Verdict} (Some Accepted) (verdict_at marks es n)
settled_verdict marks es n h = sym (ap (λ b. cond b (Some Accepted) (answered_verdict n es)) h)

pub unsettled_verdict : (marks : List Bool) (es : List Event) (n : ℕ) (v : Option Verdict) → is_settled marks n ≡ false → v ≡ answered_verdict n es → v ≡ verdict_at marks es n
unsettled_verdict marks es n v h e = e ∙ sym (ap (λ b. cond b (Some Accepted) (answered_verdict n es)) h)

-- an element read with itself as its default
pub read_at : {X : Type 0} (xs : List X) (i : ℕ) (r d : X) → i < length xs → r ≡ get_or xs i r → r ≡ get_or xs i d
read_at [] i r d h e = absurd (omega arith)
read_at (x ∷ xs) zero r d h e = e
read_at (x ∷ xs) (suc i) r d h e = read_at xs i r d (omega arith) e

-- the mark of the posted job, with another value
pub blank_at : {J B : Type 0} (b : B) (items : List (Posted J)) (i : ℕ) (r : Posted J) → i < length items → r ≡ get_or items i r → slice_get (blanks b (jobs_in items)) i ≡ Some (b, r.settled)
blank_at b [] i r h e = absurd (omega arith)
blank_at b (p ∷ items) zero r h e = ap (λ q. Some (b, q.settled)) (sym e)
blank_at b (p ∷ items) (suc i) r h e = blank_at b items i r (omega arith) e

pub count_blanks : {J B : Type 0} (b : B) (jobs : List (J × Bool)) → length (blanks b jobs) ≡ length jobs
count_blanks b [] = refl
count_blanks b (j ∷ jobs) = ap suc (count_blanks b jobs)

pub marks_blanks : {J B : Type 0} (b : B) (jobs : List (J × Bool)) → marks_of (blanks b jobs) ≡ marks_of jobs
marks_blanks b [] = refl
marks_blanks b (j ∷ jobs) = ap (λ ms. j.1 ∷ ms) (marks_blanks b jobs)
