-- Every lawful history has one report.
use Rattle.std.proofs.Common.{◌≡◌, ◌⊎◌, inl, inr, ⊎_elim, ℕ, zero, suc, ◌<◌, ◌≤◌, Bool, true, false, not, eqb, List, [], ◌∷◌, ◌++◌, refl, sym, ap, ◌∙◌, subst, arith, lt_of_not-le, Option, Some, None}
use Rattle.std.specs.List.{list_any}
use Rattle.std.proofs.lemmas.Bool.{eqb-true}
use mathlib.Core.Logic.{dite}
use native.Mathlib.Decide.{dec_le, ℕ_discrete}
use Rattle.dk_model.specs.declared.code.Verdict.{Verdict}
use Rattle.board_core.specs.declared.event.Event.{Event}
use Rattle.board_core.specs.declared.event.Event.TheVariants.{Put, Claim, Answer, Seal}
use Rattle.board_core.specs.Events.{answered_verdict, end_of, faults, is_accepted, is_fault, IsFirstFault}
use Rattle.board_core.specs.Machine.{IsLawful}
use Rattle.board_core.proofs.Histories.{and_left, and_right, both, fault_any, found, kept_or, or_right, same_number, unanswered, verdict_faults, verdict_new}
use Rattle.board_core.proofs.Lawful.{allowed_at, lawful_before, not_answered}
use Rattle.verdict_book.specs.Report.{FileReport}
use Rattle.verdict_book.specs.Books.{IsFirst, IsReportOf, report_with}
use Rattle.verdict_book.specs.declared.title.Title.{Title}

least : (p : ℕ → Bool) (bound : ℕ) → ((n : ℕ) × (p n ≡ true) × ((m : ℕ) → p m ≡ true → n ≤ m)) ⊎ ((m : ℕ) → m < bound → p m ≡ false)
least p zero = inr (λ m h. absurd (omega arith))
least p (suc bound) = ⊎_elim inl (λ none. go none (p bound) refl) (least p bound)
  where
    go : ((m : ℕ) → m < bound → p m ≡ false) → (b : Bool) → p bound ≡ b → ((n : ℕ) × (p n ≡ true) × ((m : ℕ) → p m ≡ true → n ≤ m)) ⊎ ((m : ℕ) → m < suc bound → p m ≡ false)
    go none true e = inl (bound, e, λ m h. dite (dec_le bound m) (λ d. d) (λ d. let t = none m (lt_of_not-le d) in cc))
    go none false e = inr (λ m h. dite (ℕ_discrete m bound) (λ i. ap p i ∙ e) (λ d. none m (omega (arith, d, h))))

not_is : (b : Bool) → not b ≡ true → b ≡ false
not_is true h = cc
not_is false h = refl

faulty_shape : (n : ℕ) (e : Event) → faults n e ≡ true → (w : ℕ) × (v : Verdict) × (e ≡ Answer w n v) × (is_accepted v ≡ false)
faulty_shape n (Put k) h = cc
faulty_shape n (Claim w k) h = cc
faulty_shape n (Answer w k v) h = (w, v, (λ i. Answer w (eqb-true k n (and_left (eqb k n) (not (is_accepted v)) h) i) v), not_is (is_accepted v) (and_right (eqb k n) (not (is_accepted v)) h))
faulty_shape n (Seal x) h = cc

fault_number : (e : Event) → is_fault e ≡ true → (n : ℕ) × (faults n e ≡ true)
fault_number (Put k) h = cc
fault_number (Claim w k) h = cc
fault_number (Answer w k v) h = (k, both (eqb k k) (not (is_accepted v)) (same_number k) h)
fault_number (Seal x) h = cc

any_at : (p : Event → Bool) (xs : List Event) (e : Event) (ys : List Event) → p e ≡ true → list_any p (xs ++ e ∷ ys) ≡ true
any_at p [] e ys h = kept_or (p e) (list_any p ys) h
any_at p (x ∷ xs) e ys h = or_right (p x) (list_any p (xs ++ e ∷ ys)) (any_at p xs e ys h)

-- the verdict of a number at fault
fault_verdict : (marks : List Bool) (es : List Event) → IsLawful marks es → (n : ℕ) → list_any (faults n) es ≡ true → (v : Verdict) × (answered_verdict n es ≡ Some v) × (is_accepted v ≡ false)
fault_verdict marks es a n h =
    let r = found (faults n) es h in
    let s = faulty_shape n r.1 r.4 in
    let is : es ≡ r.0 ++ Answer s.0 n s.1 ∷ r.2 = r.3 ∙ ap (λ e. r.0 ++ e ∷ r.2) s.2 in
    let a' = subst (IsLawful marks) is a in
    let ok = allowed_at marks r.0 (Answer s.0 n s.1) r.2 a' in
    let before = lawful_before marks r.0 (Answer s.0 n s.1 ∷ r.2) a' in
    let none = unanswered n r.0 (not_answered marks r.0 before s.0 n ok.0 ok.1) in
    (s.1, ap (answered_verdict n) is ∙ verdict_new s.0 n s.1 r.0 r.2 none, s.3)

pub has_first : (marks : List Bool) (es : List Event) → IsLawful marks es → (f : Option (ℕ × Verdict)) × IsFirst es f
has_first marks es a = go (list_any is_fault es) refl
  where
    by_least : (k : ℕ) → list_any (faults k) es ≡ true → ((n : ℕ) × (list_any (faults n) es ≡ true) × ((m : ℕ) → list_any (faults m) es ≡ true → n ≤ m)) ⊎ ((m : ℕ) → m < suc k → list_any (faults m) es ≡ false) → (f : Option (ℕ × Verdict)) × IsFirst es f
    by_least k h (inl r) = let v = fault_verdict marks es a r.0 r.1 in (Some (r.0, v.0), (v.1, v.2, r.2))
    by_least k h (inr none) = absurd (let t = none k (omega arith) in cc)

    go : (b : Bool) → list_any is_fault es ≡ b → (f : Option (ℕ × Verdict)) × IsFirst es f
    go false e = (None, e)
    go true e =
        let r = found is_fault es e in
        let k = fault_number r.1 r.4 in
        let bad : list_any (faults k.0) es ≡ true = subst (λ l. list_any (faults k.0) l ≡ true) (sym r.3) (any_at (faults k.0) r.0 r.1 r.2 k.1) in
        by_least k.0 bad (least (λ m. list_any (faults m) es) (suc k.0))

first_same : (es : List Event) (n m : ℕ) (v u : Verdict) → IsFirstFault es n v → IsFirstFault es m u → (n ≡ m) × (v ≡ u)
first_same es n m v u p q =
    let le : n ≤ m = p.2 m (verdict_faults m u es q.0 q.1) in
    let ge : m ≤ n = q.2 n (verdict_faults n v es p.0 p.1) in
    let same : n ≡ m = omega (arith, le, ge) in
    let verdicts : Some v ≡ Some u = sym p.0 ∙ ap (λ k. answered_verdict k es) same ∙ q.0 in
    (same, (let t : v ≡ u = cc in t))

one_first : (es : List Event) (f g : Option (ℕ × Verdict)) → IsFirst es f → IsFirst es g → f ≡ g
one_first es None None p q = refl
one_first es None (Some g) p q = absurd (let t = fault_any g.0 es (verdict_faults g.0 g.1 es q.0 q.1) in cc)
one_first es (Some f) None p q = absurd (let t = fault_any f.0 es (verdict_faults f.0 f.1 es p.0 p.1) in cc)
one_first es (Some f) (Some g) p q = let s = first_same es f.0 g.0 f.1 g.1 p q in λ i. Some (s.0 i, s.1 i)

pub has_report : (marks : List Bool) (titles : List Title) (es : List Event) → IsLawful marks es → (report : FileReport) × IsReportOf titles es report
has_report marks titles es a = let r = has_first marks es a in (report_with titles r.0 (end_of es), (r.0, r.1, refl))

pub one_report : (titles : List Title) (es : List Event) (r s : FileReport) → IsReportOf titles es r → IsReportOf titles es s → r ≡ s
one_report titles es r s p q = p.2 ∙ ap (λ f. report_with titles f (end_of es)) (one_first es p.0 q.0 p.1 q.1) ∙ sym q.2

-- the report is that by this first fault
pub report_by : (titles : List Title) (es : List Event) (report : FileReport) (f : Option (ℕ × Verdict)) → IsReportOf titles es report → IsFirst es f → report ≡ report_with titles f (end_of es)
report_by titles es report f p first = p.2 ∙ ap (λ g. report_with titles g (end_of es)) (one_first es p.0 f p.1 first)
