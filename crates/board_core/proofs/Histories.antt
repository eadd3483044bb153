-- Tests and values of a history, when an event is added.
use Rattle.std.proofs.Common.{◌≡◌, ◌⊎◌, ℕ, ◌+◌, ◌<◌, Bool, true, false, not, ◌&&◌, ◌||◌, cond, eqb, List, [], ◌∷◌, ◌++◌, length, get_or, set, sym, refl, ap, ◌∙◌, arith, inl, inr, ⊎_elim, eq-eqb, Option, Some, None}
use Rattle.std.specs.Prelude.{count_by, is_none}
use Rattle.std.specs.List.{list_any}
use Rattle.std.proofs.Math.Bool.{or-false}
use Rattle.std.proofs.lemmas.List.Folds.{list_any-append}
use Rattle.std.proofs.lemmas.List.Sums.{sum_by-append, sum_by-set}
use Rattle.dk_model.specs.declared.code.Verdict.{Verdict}
use Rattle.board_core.specs.declared.event.End.{End}
use Rattle.board_core.specs.declared.event.Event.{Event}
use Rattle.board_core.specs.declared.event.Event.TheVariants.{Put, Claim, Answer, Seal}
use Rattle.board_core.specs.Events.{is_accepted, is_put, is_seal, is_fault, claims, claims_by, answers, faults, puts, answered_verdict, end_of}

pub or_left : (a b : Bool) → (a || b) ≡ true → (a ≡ true) ⊎ (b ≡ true)
or_left true b e = inl refl
or_left false b e = inr e

pub no_or : (a b : Bool) → a ≡ false → b ≡ false → (a || b) ≡ false
no_or a b e f = rw (e, f) refl

pub or_right : (a b : Bool) → b ≡ true → (a || b) ≡ true
or_right true b e = refl
or_right false b e = e

pub kept_or : (a b : Bool) → a ≡ true → (a || b) ≡ true
kept_or a b e = rw e refl

pub not_after : (a b : Bool) → (a || b) ≡ false → b ≡ false
not_after true b e = cc
not_after false b e = e

pub not_before : (a b : Bool) → (a || b) ≡ false → a ≡ false
not_before true b e = e
not_before false b e = refl

pub and_right : (a b : Bool) → (a && b) ≡ true → b ≡ true
and_right true b e = e
and_right false b e = cc

pub and_left : (a b : Bool) → (a && b) ≡ true → a ≡ true
and_left true b e = refl
and_left false b e = e

pub both : (a b : Bool) → a ≡ true → b ≡ true → (a && b) ≡ true
both a b p q = rw (p, q) refl

pub not_true : (a : Bool) → (a ≡ true → ⊥) → a ≡ false
not_true true h = absurd (h refl)
not_true false h = refl

pub same_number : (n : ℕ) → eqb n n ≡ true
same_number n = eq-eqb n n refl

pub any_snoc : (p : Event → Bool) (es : List Event) (e : Event) → list_any p (es ++ e ∷ []) ≡ (list_any p es || p e)
any_snoc p es e = list_any-append p es (e ∷ []) ∙ ap (λ b. list_any p es || b) (or-false (p e))

-- an event that the test refuses changes no answer
pub any_same : (p : Event → Bool) (es : List Event) (e : Event) → p e ≡ false → list_any p (es ++ e ∷ []) ≡ list_any p es
any_same p es e q = any_snoc p es e ∙ (ap (λ b. list_any p es || b) q ∙ or-false (list_any p es))

pub any_kept : (p : Event → Bool) (es fs : List Event) → list_any p es ≡ true → list_any p (es ++ fs) ≡ true
any_kept p es fs h = list_any-append p es fs ∙ kept_or (list_any p es) (list_any p fs) h

pub any_hit : (p : Event → Bool) (es : List Event) (e : Event) → p e ≡ true → list_any p (es ++ e ∷ []) ≡ true
any_hit p es e h = any_snoc p es e ∙ or_right (list_any p es) (p e) h

pub any_cases : (p : Event → Bool) (es : List Event) (e : Event) → list_any p (es ++ e ∷ []) ≡ true → (list_any p es ≡ true) ⊎ (p e ≡ true)
any_cases p es e h = or_left (list_any p es) (p e) (sym (any_snoc p es e) ∙ h)

-- a test that implies another one
pub any_weaker : (p q : Event → Bool) → ((e : Event) → p e ≡ true → q e ≡ true) → (es : List Event) → list_any p es ≡ true → list_any q es ≡ true
any_weaker p q weaker [] h = h
any_weaker p q weaker (e ∷ es) h = ⊎_elim (λ t. kept_or (q e) (list_any q es) (weaker e t))
    (λ t. or_right (q e) (list_any q es) (any_weaker p q weaker es t)) (or_left (p e) (list_any p es) h)

-- an event that passes the test, with those before and after it
pub found : (p : Event → Bool) (es : List Event) → list_any p es ≡ true
    → (xs : List Event) × (e : Event) × (ys : List Event) × (es ≡ xs ++ e ∷ ys) × (p e ≡ true)
found p [] h = cc
found p (e ∷ es) h = ⊎_elim (λ t. ([], e, es, refl, t))
    (λ t. let r = found p es t in (e ∷ r.0, r.1, r.2, ap (λ l. e ∷ l) r.3, r.4)) (or_left (p e) (list_any p es) h)

pub puts_snoc : (es : List Event) (e : Event) → puts (es ++ e ∷ []) ≡ puts es + cond (is_put e) 1 0
puts_snoc es e = grind (arith, sum_by-append (λ x. cond (is_put x) 1 0) es (e ∷ []))

claims_by-claims : (w n : ℕ) (e : Event) → claims_by w n e ≡ true → claims n e ≡ true
claims_by-claims w n (Put k) h = cc
claims_by-claims w n (Claim v k) h = and_right (eqb v w) (eqb k n) h
claims_by-claims w n (Answer v k x) h = cc
claims_by-claims w n (Seal x) h = cc

pub claimed_by : (w n : ℕ) (es : List Event) → list_any (claims_by w n) es ≡ true → list_any (claims n) es ≡ true
claimed_by w n es h = any_weaker (claims_by w n) (claims n) (claims_by-claims w n) es h

-- whoever claims it, someone does
pub claimer : (n : ℕ) (es : List Event) → list_any (claims n) es ≡ true → (w : ℕ) × (list_any (claims_by w n) es ≡ true)
claimer n [] h = cc
claimer n ((Put k) ∷ es) h = claimer n es h
claimer n ((Claim v k) ∷ es) h = ⊎_elim (λ t. (v, kept_or (eqb v v && eqb k n) (list_any (claims_by v n) es) (both (eqb v v) (eqb k n) (same_number v) t)))
    (λ t. let r = claimer n es t in (r.0, or_right (claims_by r.0 n (Claim v k)) (list_any (claims_by r.0 n) es) r.1)) (or_left (eqb k n) (list_any (claims n) es) h)
claimer n ((Answer v k x) ∷ es) h = claimer n es h
claimer n ((Seal x) ∷ es) h = claimer n es h

faults-fault : (n : ℕ) (e : Event) → faults n e ≡ true → is_fault e ≡ true
faults-fault n (Put k) h = cc
faults-fault n (Claim v k) h = cc
faults-fault n (Answer v k x) h = and_right (eqb k n) (not (is_accepted x)) h
faults-fault n (Seal x) h = cc

pub no_fault : (n : ℕ) (e : Event) → is_fault e ≡ false → faults n e ≡ false
no_fault n e h = not_true (faults n e) (λ t. let u = faults-fault n e t in cc)

pub fault_any : (n : ℕ) (es : List Event) → list_any (faults n) es ≡ true → list_any is_fault es ≡ true
fault_any n es h = any_weaker (faults n) is_fault (faults-fault n) es h

-- the first of two, if there is one
abbrev pub first_of : {X : Type 0} → Option X → Option X → Option X
first_of None o = o
first_of (Some x) o = Some x

pub first_none : {X : Type 0} (o : Option X) → first_of o None ≡ o
first_none None = refl
first_none (Some x) = refl

first_cond : {X : Type 0} (b : Bool) (x : X) (o p : Option X) → cond b (Some x) (first_of o p) ≡ first_of (cond b (Some x) o) p
first_cond true x o p = refl
first_cond false x o p = refl

pub verdict_append : (n : ℕ) (es fs : List Event) → answered_verdict n (es ++ fs) ≡ first_of (answered_verdict n es) (answered_verdict n fs)
verdict_append n [] fs = refl
verdict_append n ((Put k) ∷ es) fs = verdict_append n es fs
verdict_append n ((Claim w k) ∷ es) fs = verdict_append n es fs
verdict_append n ((Answer w k v) ∷ es) fs = ap (λ o. cond (eqb k n) (Some v) o) (verdict_append n es fs) ∙ first_cond (eqb k n) v (answered_verdict n es) (answered_verdict n fs)
verdict_append n ((Seal x) ∷ es) fs = verdict_append n es fs

pub unanswered : (n : ℕ) (es : List Event) → list_any (answers n) es ≡ false → answered_verdict n es ≡ None
unanswered n [] h = refl
unanswered n ((Put k) ∷ es) h = unanswered n es h
unanswered n ((Claim w k) ∷ es) h = unanswered n es h
unanswered n ((Answer w k v) ∷ es) h = ap (λ b. cond b (Some v) (answered_verdict n es)) (not_before (eqb k n) (list_any (answers n) es) h) ∙ unanswered n es (not_after (eqb k n) (list_any (answers n) es) h)
unanswered n ((Seal x) ∷ es) h = unanswered n es h

verdict_none : (n : ℕ) (e : Event) → answers n e ≡ false → answered_verdict n (e ∷ []) ≡ None
verdict_none n (Put k) h = refl
verdict_none n (Claim w k) h = refl
verdict_none n (Answer w k v) h = ap (λ b. cond b (Some v) None) h
verdict_none n (Seal x) h = refl

pub verdict_same : (n : ℕ) (es : List Event) (e : Event) → answers n e ≡ false → answered_verdict n (es ++ e ∷ []) ≡ answered_verdict n es
verdict_same n es e h = verdict_append n es (e ∷ []) ∙ (ap (λ o. first_of (answered_verdict n es) o) (verdict_none n e h) ∙ first_none (answered_verdict n es))

pub verdict_new : (w n : ℕ) (v : Verdict) (es fs : List Event) → answered_verdict n es ≡ None → answered_verdict n (es ++ Answer w n v ∷ fs) ≡ Some v
verdict_new w n v es fs h = verdict_append n es (Answer w n v ∷ fs) ∙ (ap (λ o. first_of o (cond (eqb n n) (Some v) (answered_verdict n fs))) h ∙ ap (λ b. cond b (Some v) (answered_verdict n fs)) (same_number n))

pub verdict_kept : (n : ℕ) (v : Verdict) (es fs : List Event) → answered_verdict n es ≡ Some v → answered_verdict n (es ++ fs) ≡ Some v
verdict_kept n v es fs h = verdict_append n es fs ∙ ap (λ o. first_of o (answered_verdict n fs)) h

-- an answered verdict that isn't Accepted is a fault
pub verdict_faults : (n : ℕ) (v : Verdict) (es : List Event) → answered_verdict n es ≡ Some v → is_accepted v ≡ false → list_any (faults n) es ≡ true
verdict_faults n v [] h q = cc
verdict_faults n v ((Put k) ∷ es) h q = verdict_faults n v es h q
verdict_faults n v ((Claim w k) ∷ es) h q = verdict_faults n v es h q
verdict_faults n v ((Answer w k u) ∷ es) h q = go (λ i. verdict_faults n v es i q) (eqb k n) refl h
  where
    go : (answered_verdict n es ≡ Some v → list_any (faults n) es ≡ true) → (b : Bool) → eqb k n ≡ b → cond b (Some u) (answered_verdict n es) ≡ Some v → ((eqb k n && not (is_accepted u)) || list_any (faults n) es) ≡ true
    go rec true e i = let same : u ≡ v = cc in kept_or (eqb k n && not (is_accepted u)) (list_any (faults n) es) (both (eqb k n) (not (is_accepted u)) e (ap (λ x. not (is_accepted x)) same ∙ ap not q))
    go rec false e i = or_right (eqb k n && not (is_accepted u)) (list_any (faults n) es) (rec i)
verdict_faults n v ((Seal x) ∷ es) h q = verdict_faults n v es h q

pub unsealed : (es : List Event) → list_any is_seal es ≡ false → end_of es ≡ None
unsealed [] h = refl
unsealed ((Put k) ∷ es) h = unsealed es h
unsealed ((Claim w k) ∷ es) h = unsealed es h
unsealed ((Answer w k v) ∷ es) h = unsealed es h
unsealed ((Seal x) ∷ es) h = cc

pub sealed : (es : List Event) (x : End) → end_of es ≡ Some x → list_any is_seal es ≡ true
sealed [] x h = cc
sealed ((Put k) ∷ es) x h = sealed es x h
sealed ((Claim w k) ∷ es) x h = sealed es x h
sealed ((Answer w k v) ∷ es) x h = sealed es x h
sealed ((Seal y) ∷ es) x h = refl

pub open_end : (es : List Event) → end_of es ≡ None → list_any is_seal es ≡ false
open_end [] h = refl
open_end ((Put k) ∷ es) h = open_end es h
open_end ((Claim w k) ∷ es) h = open_end es h
open_end ((Answer w k v) ∷ es) h = open_end es h
open_end ((Seal y) ∷ es) h = cc

pub end_append : (es fs : List Event) → end_of (es ++ fs) ≡ first_of (end_of es) (end_of fs)
end_append [] fs = refl
end_append ((Put k) ∷ es) fs = end_append es fs
end_append ((Claim w k) ∷ es) fs = end_append es fs
end_append ((Answer w k v) ∷ es) fs = end_append es fs
end_append ((Seal y) ∷ es) fs = refl

end_none : (e : Event) → is_seal e ≡ false → end_of (e ∷ []) ≡ None
end_none (Put k) h = refl
end_none (Claim w k) h = refl
end_none (Answer w k v) h = refl
end_none (Seal x) h = cc

pub end_same : (es : List Event) (e : Event) → is_seal e ≡ false → end_of (es ++ e ∷ []) ≡ end_of es
end_same es e h = end_append es (e ∷ []) ∙ (ap (λ o. first_of (end_of es) o) (end_none e h) ∙ first_none (end_of es))

-- one verdict more is there
pub count_answered : (vs : List (Option Verdict)) (i : ℕ) (v : Verdict) → i < length vs → get_or vs i None ≡ None → count_by is_none (set vs i (Some v)) + 1 ≡ count_by is_none vs
count_answered vs i v h e = let t = sum_by-set (λ x. cond (is_none x) 1 0) vs i (Some v) None h in
    let u : ◌≡◌ {A = ℕ} (cond (is_none (get_or vs i None)) 1 0) 1 = ap (λ x. cond (is_none x) 1 0) e in omega (arith, t, u)
