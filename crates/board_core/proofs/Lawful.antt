-- What every lawful history has.
use Rattle.std.proofs.Common.{eq-eqb, ◌≡◌, ◌⊎◌, ℕ, zero, suc, ◌+◌, ◌<◌, ◌≤◌, Bool, true, false, not, ◌&&◌, ◌||◌, cond, eqb, leb, ltb, lt_of_not-le, List, [], ◌∷◌, ◌++◌, length, get_or, sym, refl, ap, ◌∙◌, subst, inl, inr, ⊎_elim, arith, append_assoc, append-nil, Some}
use Rattle.std.specs.Prelude.{count_by, Contains}
use Rattle.std.specs.List.{list_any}
use Rattle.std.proofs.lemmas.Bool.{eqb-true, leb-true, ltb-true, lt-ltb, le-leb}
use mathlib.Core.Logic.{dite}
use native.Mathlib.Decide.{dec_le, ℕ_discrete}
use Rattle.std.proofs.lemmas.List.Sums.{sum_by-append}
use Rattle.dk_model.specs.declared.code.Verdict.{Verdict}
use Rattle.dk_model.specs.declared.code.Verdict.TheVariants.{Accepted}
use Rattle.board_core.specs.declared.event.Event.{Event}
use Rattle.board_core.specs.declared.event.Event.TheVariants.{Put, Claim, Answer, Seal}
use Rattle.board_core.specs.Events.{claims, claims_by, answers, answers_by, faults, is_fault, is_put, is_seal, puts, is_settled, answered_verdict, verdict_at}
use Rattle.board_core.specs.Machine.{Holds, IsFree, IsBelowFaults, IsClaimable, HoldsNone, Allowed, AllowedFrom, IsLawful, IsFinished}
use Rattle.board_core.proofs.Histories.{not_before, any_same, any_hit, or_left, kept_or, or_right, and_left, and_right, both, not_true, same_number, any_snoc, puts_snoc, any_kept, any_weaker, found, claimed_by, claimer, unanswered, verdict_new}

pub lawful_snoc : (marks : List Bool) (before es : List Event) (e : Event) → AllowedFrom marks before es → Allowed marks (before ++ es) e → AllowedFrom marks before (es ++ e ∷ [])
lawful_snoc marks before [] e a ok = (rw append-nil at ok, tt)
lawful_snoc marks before (x ∷ es) e a ok = (a.0, lawful_snoc marks (before ++ x ∷ []) es e a.1 (rw append_assoc ok))

-- a lawful history in two parts
pub lawful_parts : (marks : List Bool) (before es fs : List Event) → AllowedFrom marks before (es ++ fs) → AllowedFrom marks before es × AllowedFrom marks (before ++ es) fs
lawful_parts marks before [] fs a = (tt, subst (λ l. AllowedFrom marks l fs) (sym (append-nil before)) a)
lawful_parts marks before (e ∷ es) fs a = let t = lawful_parts marks (before ++ e ∷ []) es fs a.1 in
    ((a.0, t.0), subst (λ l. AllowedFrom marks l fs) (append_assoc before (e ∷ []) es) t.1)

pub lawful_before : (marks : List Bool) (es fs : List Event) → IsLawful marks (es ++ fs) → IsLawful marks es
lawful_before marks es fs a = (lawful_parts marks [] es fs a).0

pub allowed_at : (marks : List Bool) (es : List Event) (e : Event) (fs : List Event) → IsLawful marks (es ++ e ∷ fs) → Allowed marks es e
allowed_at marks es e fs a = (lawful_parts marks [] es (e ∷ fs) a).1.0

claims_shape : (n : ℕ) (e : Event) → claims n e ≡ true → (w : ℕ) × (e ≡ Claim w n)
claims_shape n (Put k) h = cc
claims_shape n (Claim w k) h = (w, λ i. Claim w (eqb-true k n h i))
claims_shape n (Answer w k v) h = cc
claims_shape n (Seal x) h = cc

claims_by-shape : (w n : ℕ) (e : Event) → claims_by w n e ≡ true → e ≡ Claim w n
claims_by-shape w n (Put k) h = cc
claims_by-shape w n (Claim v k) h = λ i. Claim (eqb-true v w (and_left (eqb v w) (eqb k n) h) i) (eqb-true k n (and_right (eqb v w) (eqb k n) h) i)
claims_by-shape w n (Answer v k x) h = cc
claims_by-shape w n (Seal x) h = cc

answers_shape : (n : ℕ) (e : Event) → answers n e ≡ true → (w : ℕ) × (v : Verdict) × (e ≡ Answer w n v)
answers_shape n (Put k) h = cc
answers_shape n (Claim w k) h = cc
answers_shape n (Answer w k v) h = (w, v, λ i. Answer w (eqb-true k n h i) v)
answers_shape n (Seal x) h = cc

answers_by-shape : (w n : ℕ) (e : Event) → answers_by w n e ≡ true → (v : Verdict) × (e ≡ Answer w n v)
answers_by-shape w n (Put k) h = cc
answers_by-shape w n (Claim v k) h = cc
answers_by-shape w n (Answer u k v) h = (v, λ i. Answer (eqb-true u w (and_left (eqb u w) (eqb k n) h) i) (eqb-true k n (and_right (eqb u w) (eqb k n) h) i) v)
answers_by-shape w n (Seal x) h = cc

-- what was said where this event came
came : (marks : List Bool) (es xs ys : List Event) (e f : Event) → IsLawful marks es → es ≡ xs ++ e ∷ ys → e ≡ f → Allowed marks xs f
came marks es xs ys e f a is same = subst (Allowed marks xs) same (allowed_at marks xs e ys (subst (IsLawful marks) is a))

-- a claimed number was not settled
pub claimed_unsettled : (marks : List Bool) (es : List Event) → IsLawful marks es → (n : ℕ) → list_any (claims n) es ≡ true → is_settled marks n ≡ false
claimed_unsettled marks es a n h = let r = found (claims n) es h in let s = claims_shape n r.1 r.4 in
    let ok = came marks es r.0 r.2 r.1 (Claim s.0 n) a r.3 s.1 in ok.1.0.2

-- who answers has claimed
pub answered_claimed : (marks : List Bool) (es : List Event) → IsLawful marks es → (w n : ℕ) → list_any (answers_by w n) es ≡ true → list_any (claims_by w n) es ≡ true
answered_claimed marks es a w n h = let r = found (answers_by w n) es h in let s = answers_by-shape w n r.1 r.4 in
    let ok = came marks es r.0 r.2 r.1 (Answer w n s.0) a r.3 s.1 in
    subst (λ l. list_any (claims_by w n) l ≡ true) (sym r.3) (any_kept (claims_by w n) r.0 (r.1 ∷ r.2) ok.0)

-- a claim is of a number that was not claimed
claim_new : (marks : List Bool) (n : ℕ) (before : List Event) (e : Event) → Allowed marks before e → claims n e ≡ true → list_any (claims n) before ≡ false
claim_new marks n before e ok h = let s = claims_shape n e h in (subst (Allowed marks before) s.1 ok).1.0.3

claimers : (marks : List Bool) (n : ℕ) (before es : List Event) → ((u w : ℕ) → list_any (claims_by u n) before ≡ true → list_any (claims_by w n) before ≡ true → u ≡ w) → AllowedFrom marks before es
    → (u w : ℕ) → list_any (claims_by u n) (before ++ es) ≡ true → list_any (claims_by w n) (before ++ es) ≡ true → u ≡ w
claimers marks n before [] one a u w p q = one u w (rw append-nil at p) (rw append-nil at q)
claimers marks n before (e ∷ es) one a u w p q = claimers marks n (before ++ e ∷ []) es next a.1 u w (subst (λ l. list_any (claims_by u n) l ≡ true) (sym (append_assoc before (e ∷ []) es)) p) (subst (λ l. list_any (claims_by w n) l ≡ true) (sym (append_assoc before (e ∷ []) es)) q)
  where
    fresh : (u : ℕ) → claims_by u n e ≡ true → (w : ℕ) → list_any (claims_by w n) before ≡ true → ⊥
    fresh u p w q = let new = claim_new marks n before e a.0 (ap (claims n) (claims_by-shape u n e p) ∙ same_number n) in let old = claimed_by w n before q in cc

    next : (u w : ℕ) → list_any (claims_by u n) (before ++ e ∷ []) ≡ true → list_any (claims_by w n) (before ++ e ∷ []) ≡ true → u ≡ w
    next u w p q = ⊎_elim (λ x. ⊎_elim (λ y. one u w x y) (λ y. absurd (fresh w y u x)) (or_left _ _ (sym (any_snoc (claims_by w n) before e) ∙ q)))
        (λ x. ⊎_elim (λ y. absurd (fresh u x w y)) (λ y. let i = claims_by-shape u n e x in let j = claims_by-shape w n e y in let k = sym i ∙ j in cc) (or_left _ _ (sym (any_snoc (claims_by w n) before e) ∙ q)))
        (or_left _ _ (sym (any_snoc (claims_by u n) before e) ∙ p))

-- a number is claimed by one worker
pub one_claimer : (marks : List Bool) (es : List Event) → IsLawful marks es → (n u w : ℕ) → list_any (claims_by u n) es ≡ true → list_any (claims_by w n) es ≡ true → u ≡ w
one_claimer marks es a n u w p q = claimers marks n [] es (λ u w p q. cc) a u w p q

-- what a worker has claimed and not answered, nobody has answered
pub not_answered : (marks : List Bool) (es : List Event) → IsLawful marks es → (w n : ℕ) → list_any (claims_by w n) es ≡ true → list_any (answers_by w n) es ≡ false → list_any (answers n) es ≡ false
not_answered marks es a w n mine unanswered_by = not_true (list_any (answers n) es) (λ h. let r = found (answers n) es h in let s = answers_shape n r.1 r.4 in
    let by : answers_by s.0 n r.1 ≡ true = ap (answers_by s.0 n) s.2 ∙ both (eqb s.0 s.0) (eqb n n) (same_number s.0) (same_number n) in
    let there : list_any (answers_by s.0 n) es ≡ true = subst (λ l. list_any (answers_by s.0 n) l ≡ true) (sym r.3) (any_in (answers_by s.0 n) r.0 r.1 r.2 by) in
    let same = one_claimer marks es a n s.0 w (answered_claimed marks es a s.0 n there) mine in
    let mine' : list_any (answers_by w n) es ≡ true = subst (λ u. list_any (answers_by u n) es ≡ true) same there in cc)
  where
    any_in : (p : Event → Bool) (xs : List Event) (e : Event) (ys : List Event) → p e ≡ true → list_any p (xs ++ e ∷ ys) ≡ true
    any_in p [] e ys h = kept_or (p e) (list_any p ys) h
    any_in p (x ∷ xs) e ys h = or_right (p x) (list_any p (xs ++ e ∷ ys)) (any_in p xs e ys h)

answer_new : (marks : List Bool) (n : ℕ) (before : List Event) (e : Event) → IsLawful marks before → Allowed marks before e → answers n e ≡ true → list_any (answers n) before ≡ false
answer_new marks n before e a ok h = let s = answers_shape n e h in let t = subst (Allowed marks before) s.2 ok in not_answered marks before a s.0 n t.0 t.1

-- a task that is held after an event was held before it, or is claimed by it
held_before : (w n : ℕ) (es : List Event) (e : Event) → Holds w n (es ++ e ∷ []) → Holds w n es ⊎ (claims_by w n e ≡ true)
held_before w n es e h = ⊎_elim (λ t. inl (t, not_before (list_any (answers_by w n) es) (answers_by w n e) (sym (any_snoc (answers_by w n) es e) ∙ h.1))) (λ t. inr t)
    (or_left (list_any (claims_by w n) es) (claims_by w n e) (sym (any_snoc (claims_by w n) es e) ∙ h.0))

-- a worker that holds nothing, holds after its claim what it claimed
claimed_only : (marks : List Bool) (w n m : ℕ) (es : List Event) (e : Event) → Allowed marks es e → claims_by w n e ≡ true → Holds w m (es ++ e ∷ []) → n ≡ m
claimed_only marks w n m es e ok p h = let is = claims_by-shape w n e p in let none = (subst (Allowed marks es) is ok).0 in
    ⊎_elim (λ t. let done = none m t.0 in let held = t.1 in cc) (λ t. let j = claims_by-shape w m e t in let k = sym is ∙ j in cc) (held_before w m es e h)

tasks : (marks : List Bool) (w : ℕ) (before es : List Event) → ((n m : ℕ) → Holds w n before → Holds w m before → n ≡ m) → AllowedFrom marks before es → (n m : ℕ) → Holds w n (before ++ es) → Holds w m (before ++ es) → n ≡ m
tasks marks w before [] one a n m p q = one n m (rw append-nil at p) (rw append-nil at q)
tasks marks w before (e ∷ es) one a n m p q = tasks marks w (before ++ e ∷ []) es next a.1 n m (subst (Holds w n) (sym (append_assoc before (e ∷ []) es)) p) (subst (Holds w m) (sym (append_assoc before (e ∷ []) es)) q)
  where
    next : (n m : ℕ) → Holds w n (before ++ e ∷ []) → Holds w m (before ++ e ∷ []) → n ≡ m
    next n m p q = ⊎_elim (λ x. ⊎_elim (λ y. one n m x y) (λ y. sym (claimed_only marks w m n before e a.0 y p)) (held_before w m before e q)) (λ x. claimed_only marks w n m before e a.0 x q) (held_before w n before e p)

-- a worker holds at most one task
pub one_task : (marks : List Bool) (es : List Event) → IsLawful marks es → (w n m : ℕ) → Holds w n es → Holds w m es → n ≡ m
one_task marks es a w n m p q = tasks marks w [] es (λ n m p q. (let no = p.0 in cc)) a n m p q

-- it holds none once it has answered that one
pub idle_after : (marks : List Bool) (es : List Event) → IsLawful marks es → (w n : ℕ) (v : Verdict) → Holds w n es → HoldsNone w (es ++ Answer w n v ∷ [])
idle_after marks es a w n v h m t = go (list_any (answers_by w m) es) refl
  where
    claimed : list_any (claims_by w m) es ≡ true
    claimed = sym (any_same (claims_by w m) es (Answer w n v) refl) ∙ t

    go : (b : Bool) → list_any (answers_by w m) es ≡ b → list_any (answers_by w m) (es ++ Answer w n v ∷ []) ≡ true
    go true e = any_kept (answers_by w m) es (Answer w n v ∷ []) e
    go false e = let same = one_task marks es a w n m h (claimed, e) in any_hit (answers_by w m) es (Answer w n v) (both (eqb w w) (eqb n m) (same_number w) (eq-eqb n m same))

-- after its claim it holds that task
pub holds_after : (marks : List Bool) (es : List Event) → IsLawful marks es → (w n : ℕ) → Allowed marks es (Claim w n) → Holds w n (es ++ Claim w n ∷ [])
holds_after marks es a w n ok = (
  any_hit (claims_by w n) es (Claim w n) (both (eqb w w) (eqb n n) (same_number w) (same_number n)),
  any_same (answers_by w n) es (Claim w n) refl ∙ not_true (list_any (answers_by w n) es) (λ t. let claimed = claimed_by w n es (answered_claimed marks es a w n t) in let new = ok.1.0.3 in cc),
)

-- neither a put nor a seal gives a worker a task
pub still_none : (w : ℕ) (es : List Event) (e : Event) → HoldsNone w es → ((n : ℕ) → claims_by w n e ≡ false) → HoldsNone w (es ++ e ∷ [])
still_none w es e h other n t = any_kept (answers_by w n) es (e ∷ []) (h n (sym (any_same (claims_by w n) es e (other n)) ∙ t))

-- events of a kind that comes only where none has come
count_from : (marks : List Bool) (p : Event → Bool) → ((before : List Event) (e : Event) → IsLawful marks before → Allowed marks before e → p e ≡ true → list_any p before ≡ false)
    → (before es : List Event) → IsLawful marks before → AllowedFrom marks before es → count_by p es ≤ cond (list_any p before) 0 1
count_from marks p new before [] l a = none (list_any p before)
  where
    none : (b : Bool) → 0 ≤ cond b 0 1
    none b = omega arith
count_from marks p new before (e ∷ es) l a = go (p e) refl (list_any p before) refl (count_from marks p new (before ++ e ∷ []) es (lawful_snoc marks [] before e l a.0) a.1)
  where
    cons : count_by p (e ∷ es) ≡ cond (p e) 1 0 + count_by p es
    cons = let t = sum_by-append (λ x. cond (p x) 1 0) (e ∷ []) es in omega (arith, t)

    go : (b : Bool) → p e ≡ b → (d : Bool) → list_any p before ≡ d → count_by p es ≤ cond (list_any p (before ++ e ∷ [])) 0 1 → count_by p (e ∷ es) ≤ cond d 0 1
    go true q d r rec = let n = new before e l a.0 q in let r' : count_by p es ≤ 0 = subst (λ x. count_by p es ≤ cond x 0 1) (any_snoc p before e ∙ (λ i. n i || q i)) rec in
        let c : cond (p e) 1 0 ≡ suc zero = ap (λ x. cond x 1 0) q in subst (λ x. count_by p (e ∷ es) ≤ cond x 0 1) (sym n ∙ r) (omega (arith, cons, c, r'))
    go false q d r rec = let r' : count_by p es ≤ cond (d || false) 0 1 = subst (λ x. count_by p es ≤ cond x 0 1) (any_snoc p before e ∙ (λ i. r i || q i)) rec in
        let c : cond (p e) 1 0 ≡ zero = ap (λ x. cond x 1 0) q in let s : ◌≡◌ {A = ℕ} (cond (d || false) 0 1) (cond d 0 1) = either d in omega (arith, cons, c, r', s)
      where
        either : (d : Bool) → ◌≡◌ {A = ℕ} (cond (d || false) 0 1) (cond d 0 1)
        either true = refl
        either false = refl

pub claimed_at_most_once : (marks : List Bool) (es : List Event) → IsLawful marks es → (n : ℕ) → count_by (claims n) es ≤ 1
claimed_at_most_once marks es a n = count_from marks (claims n) (λ before e l ok h. claim_new marks n before e ok h) [] es tt a

pub answered_at_most_once : (marks : List Bool) (es : List Event) → IsLawful marks es → (n : ℕ) → count_by (answers n) es ≤ 1
answered_at_most_once marks es a n = count_from marks (answers n) (λ before e l ok h. answer_new marks n before e l ok h) [] es tt a

-- an element, with those before and after it
parted : (es : List Event) (e : Event) → Contains es e → (xs : List Event) × (ys : List Event) × (es ≡ xs ++ e ∷ ys)
parted es e c = go es c.0 c.1 c.2
  where
    go : (es : List Event) (k : ℕ) → k < length es → get_or es k e ≡ e → (xs : List Event) × (ys : List Event) × (es ≡ xs ++ e ∷ ys)
    go [] k h i = absurd (omega arith)
    go (x ∷ es) zero h i = ([], es, ap (λ y. y ∷ es) i)
    go (x ∷ es) (suc k) h i = let r = go es k (omega arith) i in (x ∷ r.0, r.1, ap (λ l. x ∷ l) r.2)

-- the verdict that stands is the one answered
pub verdict_is_answered : (marks : List Bool) (es : List Event) → IsLawful marks es → (w n : ℕ) (v : Verdict) → Contains es (Answer w n v) → verdict_at marks es n ≡ Some v
verdict_is_answered marks es a w n v c = let r = parted es (Answer w n v) c in let a' = subst (IsLawful marks) r.2 a in
    let ok = allowed_at marks r.0 (Answer w n v) r.1 a' in let l = lawful_before marks r.0 (Answer w n v ∷ r.1) a' in
    let none = unanswered n r.0 (not_answered marks r.0 l w n ok.0 ok.1) in
    let claimed : list_any (claims n) es ≡ true = subst (λ l. list_any (claims n) l ≡ true) (sym r.2) (any_kept (claims n) r.0 (Answer w n v ∷ r.1) (claimed_by w n r.0 ok.0)) in
    ap (λ b. cond b (Some Accepted) (answered_verdict n es)) (claimed_unsettled marks es a n claimed) ∙ (ap (answered_verdict n) r.2 ∙ verdict_new w n v r.0 r.1 none)

pub settled_free : (marks : List Bool) (es : List Event) → IsLawful marks es → (n : ℕ) → is_settled marks n ≡ true → list_any (claims n) es ≡ false
settled_free marks es a n h = not_true (list_any (claims n) es) (λ t. let u = claimed_unsettled marks es a n t in cc)

contains_more : (x : Event) (es : List Event) (e : Event) → Contains es e → Contains (x ∷ es) e
contains_more x es e c = (suc c.0, (let h = c.1 in omega arith), c.2)

pub answer_from : (n : ℕ) (v : Verdict) (es : List Event) → answered_verdict n es ≡ Some v → (w : ℕ) × Contains es (Answer w n v)
answer_from n v [] h = cc
answer_from n v ((Put k) ∷ es) h = let r = answer_from n v es h in (r.0, contains_more (Put k) es (Answer r.0 n v) r.1)
answer_from n v ((Claim w k) ∷ es) h = let r = answer_from n v es h in (r.0, contains_more (Claim w k) es (Answer r.0 n v) r.1)
answer_from n v ((Answer w k u) ∷ es) h = go (λ i. answer_from n v es i) (eqb k n) refl h
  where
    go : (answered_verdict n es ≡ Some v → (w : ℕ) × Contains es (Answer w n v)) → (b : Bool) → eqb k n ≡ b → cond b (Some u) (answered_verdict n es) ≡ Some v → (x : ℕ) × Contains (Answer w k u ∷ es) (Answer x n v)
    go rec true e i = let at = eqb-true k n e in let same : u ≡ v = cc in (w, (zero, omega arith, λ j. Answer w (at j) (same j)))
    go rec false e i = let r = rec i in (r.0, contains_more (Answer w k u) es (Answer r.0 n v) r.1)
answer_from n v ((Seal x) ∷ es) h = let r = answer_from n v es h in (r.0, contains_more (Seal x) es (Answer r.0 n v) r.1)

pub verdict_from : (marks : List Bool) (es : List Event) (n : ℕ) (v : Verdict) → is_settled marks n ≡ false → verdict_at marks es n ≡ Some v → (w : ℕ) × Contains es (Answer w n v)
verdict_from marks es n v s h = answer_from n v es (sym (ap (λ b. cond b (Some Accepted) (answered_verdict n es)) s) ∙ h)

answered_by : (w n : ℕ) (es : List Event) → list_any (answers_by w n) es ≡ true → list_any (answers n) es ≡ true
answered_by w n es h = any_weaker (answers_by w n) (answers n) weaker es h
  where
    weaker : (e : Event) → answers_by w n e ≡ true → answers n e ≡ true
    weaker e h = ap (answers n) (answers_by-shape w n e h).1 ∙ same_number n

-- the least number below a bound that passes a test, or none does
least : (p : ℕ → Bool) (bound : ℕ) → ((n : ℕ) × (n < bound) × (p n ≡ true) × ((m : ℕ) → p m ≡ true → n ≤ m)) ⊎ ((m : ℕ) → m < bound → p m ≡ false)
least p zero = inr (λ m h. absurd (omega arith))
least p (suc bound) = ⊎_elim (λ r. inl (r.0, (let h = r.1 in omega arith), r.2, r.3)) (λ none. go none (p bound) refl) (least p bound)
  where
    go : ((m : ℕ) → m < bound → p m ≡ false) → (b : Bool) → p bound ≡ b → ((n : ℕ) × (n < suc bound) × (p n ≡ true) × ((m : ℕ) → p m ≡ true → n ≤ m)) ⊎ ((m : ℕ) → m < suc bound → p m ≡ false)
    go none true e = inl (bound, omega arith, e, λ m h. dite (dec_le bound m) (λ d. d) (λ d. let t = none m (lt_of_not-le d) in cc))
    go none false e = inr (λ m h. dite (ℕ_discrete m bound) (λ i. ap p i ∙ e) (λ d. none m (omega (arith, d, h))))

-- whether a number is free
free_test : List Bool → List Event → ℕ → Bool
free_test marks es n = ltb 0 n && (leb n (puts es) && (not (is_settled marks n) && not (list_any (claims n) es)))

not_is : (b : Bool) → not b ≡ true → b ≡ false
not_is true h = cc
not_is false h = refl

test_free : (marks : List Bool) (es : List Event) (n : ℕ) → free_test marks es n ≡ true → IsFree marks es n
unfolding free_test
test_free marks es n h = let r = and_right (ltb 0 n) (leb n (puts es) && (not (is_settled marks n) && not (list_any (claims n) es))) h in
    let s = and_right (leb n (puts es)) (not (is_settled marks n) && not (list_any (claims n) es)) r in (
      ltb-true 0 n (and_left (ltb 0 n) (leb n (puts es) && (not (is_settled marks n) && not (list_any (claims n) es))) h),
      leb-true n (puts es) (and_left (leb n (puts es)) (not (is_settled marks n) && not (list_any (claims n) es)) r),
      not_is (is_settled marks n) (and_left (not (is_settled marks n)) (not (list_any (claims n) es)) s),
      not_is (list_any (claims n) es) (and_right (not (is_settled marks n)) (not (list_any (claims n) es)) s),
    )

free_tests : (marks : List Bool) (es : List Event) (n : ℕ) → IsFree marks es n → free_test marks es n ≡ true
unfolding free_test
free_tests marks es n f = let a = f.0 in let b = f.1 in both (ltb 0 n) (leb n (puts es) && (not (is_settled marks n) && not (list_any (claims n) es))) (lt-ltb 0 n a)
    (both (leb n (puts es)) (not (is_settled marks n) && not (list_any (claims n) es)) (le-leb n (puts es) b) (both (not (is_settled marks n)) (not (list_any (claims n) es)) (ap not f.2) (ap not f.3)))

-- where a number is free and lies below the faults, some number can be claimed
pub some_claimable : (marks : List Bool) (es : List Event) (n : ℕ) → IsFree marks es n → IsBelowFaults es n → (m : ℕ) × IsClaimable marks es m
some_claimable marks es n free below = ⊎_elim
    (λ r. (r.0, (test_free marks es r.0 r.2, (λ m f. r.3 m (free_tests marks es m f)), λ m bad. let t = below m bad in let u = r.3 n (free_tests marks es n free) in omega arith)))
    (λ no. absurd (let t = no n (omega arith) in let u = free_tests marks es n free in cc))
    (least (free_test marks es) (n + 1))

-- a sealed history with nothing held and nothing claimable is finished
pub finished : (marks : List Bool) (es : List Event) → list_any is_seal es ≡ true → ((w : ℕ) → HoldsNone w es) → ((n : ℕ) → ¬ IsClaimable marks es n) → IsFinished marks es
finished marks es sealed none drained = record {
  sealed = sealed;
  answered = λ n pos put unsettled below. go n below pos put unsettled (list_any (claims n) es) refl;
}
  where
    go : (n : ℕ) → IsBelowFaults es n → 0 < n → n ≤ puts es → is_settled marks n ≡ false → (b : Bool) → list_any (claims n) es ≡ b → list_any (answers n) es ≡ true
    go n below pos put unsettled true h = let r = claimer n es h in answered_by r.0 n es (none r.0 n r.1)
    go n below pos put unsettled false h = let r = some_claimable marks es n (pos, put, unsettled, h) below in absurd (drained r.0 r.1)

-- after a seal or a fault no job is put
pub no_more_puts : (marks : List Bool) (before es : List Event) → AllowedFrom marks before es → (list_any is_seal before ≡ true) ⊎ (list_any is_fault before ≡ true) → puts (before ++ es) ≡ puts before
no_more_puts marks before [] a over = ap puts (append-nil before)
no_more_puts marks before (e ∷ es) a over = ap puts (sym (append_assoc before (e ∷ []) es))
    ∙ (no_more_puts marks (before ++ e ∷ []) es a.1 (⊎_elim (λ h. inl (any_kept is_seal before (e ∷ []) h)) (λ h. inr (any_kept is_fault before (e ∷ []) h)) over)
    ∙ (puts_snoc before e ∙ (let no : ◌≡◌ {A = ℕ} (cond (is_put e) 1 0) 0 = none e a.0 in omega arith)))
  where
    none : (e : Event) → Allowed marks before e → ◌≡◌ {A = ℕ} (cond (is_put e) 1 0) 0
    none (Put n) ok = absurd (⊎_elim (λ h. let u = ok.1 in let z : true ≡ false = sym h ∙ u in cc) (λ h. let u = ok.2 in let z : true ≡ false = sym h ∙ u in cc) over)
    none (Claim w n) ok = refl
    none (Answer w n v) ok = refl
    none (Seal x) ok = refl

-- what is drained, and sealed or stopped, stays drained
pub still_drained : (marks : List Bool) (before es : List Event) → IsLawful marks (before ++ es) → (list_any is_seal before ≡ true) ⊎ (list_any is_fault before ≡ true)
    → ((n : ℕ) → ¬ IsClaimable marks before n) → (n : ℕ) → ¬ IsClaimable marks (before ++ es) n
still_drained marks before es a over drained n c = let same = no_more_puts marks before es (lawful_parts marks [] before es a).1 over in let f = c.0 in
    let free : IsFree marks before n = (f.0, subst (λ k. n ≤ k) same f.1, f.2, not_true (list_any (claims n) before) (λ h. let t = any_kept (claims n) before es h in let u = f.3 in let z : true ≡ false = sym t ∙ u in cc)) in
    let r = some_claimable marks before n free (λ m bad. c.2 m (any_kept (faults m) before es bad)) in drained r.0 r.1
