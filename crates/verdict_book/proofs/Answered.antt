-- What a lawful history says of the numbers that were claimed and answered, and of its end.
use Rattle.std.proofs.Common.{◌≡◌, ◌↔◌, ℕ, ◌<◌, ◌≤◌, ◌||◌, Bool, true, false, cond, eqb, List, [], ◌∷◌, ◌++◌, refl, sym, ap, ◌∙◌, subst, arith, Option, Some, None}
use Rattle.std.specs.Prelude.{IfNone, IfSome, IsNone}
use Rattle.std.specs.List.{list_any}
use Rattle.std.proofs.lemmas.Bool.{eqb-true}
use Rattle.std.proofs.lemmas.List.Sums.{sum_by-append}
use Rattle.dk_model.specs.declared.code.Verdict.{Verdict}
use Rattle.dk_model.specs.declared.code.Verdict.TheVariants.{Accepted, Refused, Ended, Memory}
use Rattle.board_core.specs.declared.event.End.{End}
use Rattle.board_core.specs.declared.event.End.TheVariants.{Whole, Unread, Unopened, Fault, Stopped}
use Rattle.board_core.specs.declared.event.Event.{Event}
use Rattle.board_core.specs.declared.event.Place.{Place}
use Rattle.board_core.specs.declared.event.Event.TheVariants.{Put, Claim, Answer, Seal}
use Rattle.board_core.specs.Events.{answered_verdict, answers, claims, end_of, is_accepted, is_fault, is_put, is_seal, IsFirstFault, puts}
use Rattle.board_core.specs.Machine.{Allowed, IsLawful}
use Rattle.board_core.proofs.Histories.{any_kept, claimed_by, fault_any, found, kept_or, or_right, verdict_faults}
use Rattle.board_core.proofs.Lawful.{allowed_at}
use Rattle.verdict_book.specs.Books.{EndsAtNoVerdict, fault_of_end, IsFirst, IsWithoutFault}
use Rattle.verdict_book.specs.Stops.{EndsByItself, IsFault}

-- an answered number has a verdict
pub has_verdict : (n : ℕ) (es : List Event) → list_any (answers n) es ≡ true → (v : Verdict) × (answered_verdict n es ≡ Some v)
has_verdict n [] h = cc
has_verdict n ((Put k) ∷ es) h = has_verdict n es h
has_verdict n ((Claim w k) ∷ es) h = has_verdict n es h
has_verdict n ((Answer w k u) ∷ es) h = go (λ t. has_verdict n es t) (eqb k n) refl
  where
    go : (list_any (answers n) es ≡ true → (v : Verdict) × (answered_verdict n es ≡ Some v)) → (b : Bool) → eqb k n ≡ b → (v : Verdict) × (cond (eqb k n) (Some u) (answered_verdict n es) ≡ Some v)
    go rec true e = (u, ap (λ b. cond b (Some u) (answered_verdict n es)) e)
    go rec false e = let r = rec (sym (ap (λ b. b || list_any (answers n) es) e) ∙ h) in (r.0, ap (λ b. cond b (Some u) (answered_verdict n es)) e ∙ r.1)
has_verdict n ((Seal x) ∷ es) h = has_verdict n es h

pub verdict_answers : (n : ℕ) (v : Verdict) (es : List Event) → answered_verdict n es ≡ Some v → list_any (answers n) es ≡ true
verdict_answers n v [] h = cc
verdict_answers n v ((Put k) ∷ es) h = verdict_answers n v es h
verdict_answers n v ((Claim w k) ∷ es) h = verdict_answers n v es h
verdict_answers n v ((Answer w k u) ∷ es) h = go (λ t. verdict_answers n v es t) (eqb k n) refl
  where
    go : (answered_verdict n es ≡ Some v → list_any (answers n) es ≡ true) → (b : Bool) → eqb k n ≡ b → (eqb k n || list_any (answers n) es) ≡ true
    go rec true e = kept_or (eqb k n) (list_any (answers n) es) e
    go rec false e = or_right (eqb k n) (list_any (answers n) es) (rec (sym (ap (λ b. cond b (Some u) (answered_verdict n es)) e) ∙ h))
verdict_answers n v ((Seal x) ∷ es) h = verdict_answers n v es h

answer_shape : (n : ℕ) (e : Event) → answers n e ≡ true → (w : ℕ) × (v : Verdict) × (e ≡ Answer w n v)
answer_shape n (Put k) h = cc
answer_shape n (Claim w k) h = cc
answer_shape n (Answer w k v) h = (w, v, λ i. Answer w (eqb-true k n h i) v)
answer_shape n (Seal x) h = cc

claim_shape : (n : ℕ) (e : Event) → claims n e ≡ true → (w : ℕ) × (e ≡ Claim w n)
claim_shape n (Put k) h = cc
claim_shape n (Claim w k) h = (w, λ i. Claim w (eqb-true k n h i))
claim_shape n (Answer w k v) h = cc
claim_shape n (Seal x) h = cc

-- what was said where this event came
came : (marks : List Bool) (es xs ys : List Event) (e f : Event) → IsLawful marks es → es ≡ xs ++ e ∷ ys → e ≡ f → Allowed marks xs f
came marks es xs ys e f a is same = subst (Allowed marks xs) same (allowed_at marks xs e ys (subst (IsLawful marks) is a))

puts_part : (xs ys : List Event) → puts xs ≤ puts (xs ++ ys)
puts_part xs ys = omega (arith, sum_by-append (λ x. cond (is_put x) 1 0) xs ys)

-- a claimed number was put
pub claimed_put : (marks : List Bool) (es : List Event) → IsLawful marks es → (n : ℕ) → list_any (claims n) es ≡ true → (0 < n) × (n ≤ puts es)
claimed_put marks es a n h =
    let r = found (claims n) es h in
    let s = claim_shape n r.1 r.4 in
    let ok = came marks es r.0 r.2 r.1 (Claim s.0 n) a r.3 s.1 in
    let free = ok.1.0 in
    let some : 0 < n = free.0 in
    let few : n ≤ puts r.0 = free.1 in
    let part = puts_part r.0 (r.1 ∷ r.2) in
    let all : puts es ≡ puts (r.0 ++ r.1 ∷ r.2) = ap puts r.3 in
    (some, omega arith)

-- an answered number was claimed
pub answered_claim : (marks : List Bool) (es : List Event) → IsLawful marks es → (n : ℕ) → list_any (answers n) es ≡ true → list_any (claims n) es ≡ true
answered_claim marks es a n h =
    let r = found (answers n) es h in
    let s = answer_shape n r.1 r.4 in
    let ok = came marks es r.0 r.2 r.1 (Answer s.0 n s.1) a r.3 s.2 in
    subst (λ l. list_any (claims n) l ≡ true) (sym r.3) (any_kept (claims n) r.0 (r.1 ∷ r.2) (claimed_by s.0 n r.0 ok.0))

ended_at : (es : List Event) (x : End) → end_of es ≡ Some x → (xs : List Event) × (ys : List Event) × (es ≡ xs ++ Seal x ∷ ys)
ended_at [] x h = cc
ended_at ((Put k) ∷ es) x h = let r = ended_at es x h in (Put k ∷ r.0, r.1, ap (λ l. Put k ∷ l) r.2)
ended_at ((Claim w k) ∷ es) x h = let r = ended_at es x h in (Claim w k ∷ r.0, r.1, ap (λ l. Claim w k ∷ l) r.2)
ended_at ((Answer w k v) ∷ es) x h = let r = ended_at es x h in (Answer w k v ∷ r.0, r.1, ap (λ l. Answer w k v ∷ l) r.2)
ended_at ((Seal y) ∷ es) x h = let same : y ≡ x = cc in ([], es, ap (λ z. Seal z ∷ es) same)

-- the end is Stopped only where a job is at fault
pub stopped_fault : (marks : List Bool) (es : List Event) → IsLawful marks es → end_of es ≡ Some Stopped → list_any is_fault es ≡ true
stopped_fault marks es a h =
    let r = ended_at es Stopped h in
    let ok = came marks es r.0 r.1 (Seal Stopped) (Seal Stopped) a r.2 refl in
    subst (λ l. list_any is_fault l ≡ true) (sym r.2) (any_kept is_fault r.0 (Seal Stopped ∷ r.1) ok.1)

-- a reader's own verdict isn't Accepted
end_fault : (marks : List Bool) (es : List Event) → IsLawful marks es → (place : Place) (v : Verdict) → end_of es ≡ Some (Fault place v) → is_accepted v ≡ false
end_fault marks es a place v h =
    let r = ended_at es (Fault place v) h in
    let ok = came marks es r.0 r.1 (Seal (Fault place v)) (Seal (Fault place v)) a r.2 refl in
    ok.1

-- a sealed history has an end
pub has_end : (es : List Event) → list_any is_seal es ≡ true → (x : End) × (end_of es ≡ Some x)
has_end [] h = cc
has_end ((Put k) ∷ es) h = has_end es h
has_end ((Claim w k) ∷ es) h = has_end es h
has_end ((Answer w k v) ∷ es) h = has_end es h
has_end ((Seal x) ∷ es) h = (x, refl)

pub accepted_is : (v : Verdict) → is_accepted v ≡ true → v ≡ Accepted
accepted_is Accepted h = refl
accepted_is (Refused c) h = cc
accepted_is Ended h = cc
accepted_is Memory h = cc

pub is_fault_by : (v : Verdict) → is_accepted v ≡ false → IsFault v
is_fault_by Accepted h = cc
is_fault_by (Refused c) h = λ e. cc
is_fault_by Ended h = λ e. cc
is_fault_by Memory h = λ e. cc

-- without a fault a sealed history ends by the reader itself
pub ends_by_itself : (marks : List Bool) (es : List Event) → IsLawful marks es → list_any is_seal es ≡ true → list_any is_fault es ≡ false → EndsByItself (end_of es)
ends_by_itself marks es a sealed clean = let r = has_end es sealed in subst EndsByItself (sym r.1) (go r.0 r.1)
  where
    go : (x : End) → end_of es ≡ Some x → EndsByItself (Some x)
    go Whole e = tt
    go (Unread place) e = tt
    go (Unopened name) e = tt
    go (Fault place v) e = is_fault_by v (end_fault marks es a place v e)
    go Stopped e = let t = stopped_fault marks es a e in cc

-- the first fault is a number that was put
pub first_put : (marks : List Bool) (es : List Event) → IsLawful marks es → (n : ℕ) (v : Verdict) → IsFirstFault es n v → (0 < n) × (n ≤ puts es)
first_put marks es a n v first = claimed_put marks es a n (answered_claim marks es a n (verdict_answers n v es first.0))

-- a book's first fault, by its clauses
pub first_by : (es : List Event) (f : Option (ℕ × Verdict)) → IfNone f (list_any is_fault es ≡ false) → IfSome f (λ x. IsFirstFault es x.0 x.1) → IsFirst es f
first_by es None none some = none
first_by es (Some f) none some = some

pub first_any : (es : List Event) (n : ℕ) (v : Verdict) → IsFirstFault es n v → list_any is_fault es ≡ true
first_any es n v first = fault_any n es (verdict_faults n v es first.0 first.1)

-- where no job is at fault, none is named exactly where the reader ended at no verdict
pub none_named : (es : List Event) (count : ℕ) → list_any is_fault es ≡ false → EndsByItself (end_of es) → IsNone (fault_of_end count (end_of es)) ↔ IsWithoutFault es
none_named es count clean own = go (end_of es) own
  where
    go : (o : Option End) → EndsByItself o → IsNone (fault_of_end count o) ↔ ((list_any is_fault es ≡ false) × EndsAtNoVerdict o)
    go (Some Whole) own = (λ h. (clean, tt), λ w. refl)
    go (Some (Unread place)) own = (λ h. (clean, tt), λ w. refl)
    go (Some (Unopened name)) own = (λ h. (clean, tt), λ w. refl)
    go (Some (Fault place v)) own = (λ h. (let t : true ≡ false = h in cc), λ w. absurd w.1)
    go (Some Stopped) own = absurd own
    go None own = absurd own
