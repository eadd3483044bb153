-- The report of a history is that of the theory.
use Rattle.std.proofs.Common.{◌≡◌, inl, inr, ℕ, zero, suc, ◌+◌, ◌-◌, ◌<◌, ◌≤◌, Bool, true, false, List, [], ◌∷◌, ◌++◌, length, map, take, drop, eqb, refl, sym, ap, ◌∙◌, subst, arith, length-append, Some, None, Option}
use Rattle.std.specs.Prelude.{slice_get, slice_index_or, if◌then◌else◌}
use Rattle.std.specs.List.{list_any}
use Rattle.std.proofs.lemmas.Bool.{eqb-true}
use Rattle.dk_model.specs.Verdicts.{verdict_of}
use Rattle.dk_model.specs.declared.code.Code.TheVariants.{E08}
use Rattle.dk_model.specs.declared.code.Verdict.{Verdict}
use Rattle.dk_model.specs.declared.code.Verdict.TheVariants as verdict
use Rattle.dk_model.specs.declared.limits.Limits.{Limits}
use Rattle.theory_walk.specs.Walks.{Placed, Reached, Walk, ends, goes_on, not_opened, spot_of, unread_at}
use Rattle.board_core.specs.declared.event.End.{End}
use Rattle.board_core.specs.declared.event.End.TheVariants as end
use Rattle.board_core.specs.declared.event.Event.{Event}
use Rattle.board_core.specs.declared.event.Place.{Place}
use Rattle.board_core.specs.Events.{end_of, faults, is_accepted, is_fault, IsFirstFault, puts}
use Rattle.board_core.specs.Machine.{IsDueTo}
use Rattle.board_core.proofs.Histories.{fault_any}
use Rattle.verdict_book.specs.Report.{FileReport, PlainShown, nowhere}
use Rattle.verdict_book.specs.Books.{IsFirst, IsReportOf, end_outcome, place_at, report_with}
use Rattle.verdict_book.specs.Titles.{lines_in}
use Rattle.verdict_book.specs.declared.title.Title.{Title}
use Rattle.verdict_book.specs.declared.outcome.Outcome.{Outcome}
use Rattle.verdict_book.specs.declared.outcome.Outcome.TheVariants.{Stopped, Unread}
use Rattle.verdict_book.proofs.Answered.{has_end, stopped_fault}
use Rattle.file_report.specs.Outcomes.{Theory, no_theory, scoped_verdict}
use Rattle.file_report.specs.TheoryReports.{with_lines, by_verdict, report_from, report_of_walk}
use Rattle.file_report.specs.Reports.{place_of, reached_outcome, stopped_at}
use Rattle.file_report.specs.Jobs.{AreJobsBehind, IsJobAt, TheoryJob, due_on, is_early_on, job_titles, theory_behind}
use Rattle.file_report.specs.Theories.{checking, scoped_at, shown_on, theory_with, verdict_on}
use Rattle.file_report.specs.Histories.{ChecksJobsIn, ChecksTheory, DueAt, EndsReading, IsCut, ReportsTheory, behind}
use Rattle.file_report.proofs.Dues.{answered_due, below_accepted}
use Rattle.file_report.proofs.Fronts.{all_taken, at_index, front_dropped, front_taken, with_no_more, within_limit}

place_of_title : {J : Type 0} (job_of : J → TheoryJob) (jobs : List (J × Bool)) (k : ℕ) (j : J × Bool) → slice_get jobs k ≡ Some j
    → slice_index_or (map (λ (t : Title). t.place) (job_titles job_of jobs)) k nowhere ≡ (job_of j.0).title.place
place_of_title job_of [] k j e = cc
place_of_title job_of (y ∷ xs) zero j e = let same : y ≡ j = (let s : Some y ≡ Some j = e in cc) in ap (λ x. (job_of x.0).title.place) same
place_of_title job_of (y ∷ xs) (suc k) j e = place_of_title job_of xs k j e

pub other_ends : (v : Verdict) (n : ℕ) (c : Placed) (shown : PlainShown) (rest : FileReport) → is_accepted v ≡ false
    → by_verdict v n c shown rest ≡ (let r : FileReport = record { lines = []; outcome = stopped_at (n + 1) (spot_of c) v } in r)
other_ends verdict.Accepted n c shown rest other = cc
other_ends (verdict.Refused code) n c shown rest other = refl
other_ends verdict.Ended n c shown rest other = refl
other_ends verdict.Memory n c shown rest other = refl

-- what is shown of these jobs
abbrev told : {J : Type 0} → (J → TheoryJob) → List (J × Bool) → List PlainShown
told job_of jobs = lines_in (job_titles job_of jobs)

lines_taken : {J : Type 0} (job_of : J → TheoryJob) (jobs : List (J × Bool)) (k : ℕ) → lines_in (take k (job_titles job_of jobs)) ≡ told job_of (take k jobs)
lines_taken job_of jobs zero = refl
lines_taken job_of [] (suc k) = refl
lines_taken job_of (j ∷ jobs) (suc k) = ap (λ ls. lines_in ((job_of j.0).title ∷ []) ++ ls) (lines_taken job_of jobs k)

as_many_lines : {J : Type 0} (job_of : J → TheoryJob) (jobs : List (J × Bool)) (k : ℕ) → k ≤ length jobs → length (told job_of (take k jobs)) ≡ k
as_many_lines job_of jobs zero le = refl
as_many_lines job_of [] (suc k) le = absurd (let l : suc k ≤ 0 = le in omega arith)
as_many_lines job_of (j ∷ jobs) (suc k) le = ap suc (as_many_lines job_of jobs k (omega arith))

no_lines : {J : Type 0} (job_of : J → TheoryJob) (jobs : List (J × Bool)) → length jobs ≡ 0 → told job_of jobs ≡ []
no_lines job_of [] e = refl
no_lines job_of (j ∷ jobs) e = absurd (let l : suc (length jobs) ≡ 0 = e in omega arith)

all_titles : {J : Type 0} (job_of : J → TheoryJob) (jobs : List (J × Bool)) → length (job_titles job_of jobs) ≡ length jobs
all_titles job_of [] = refl
all_titles job_of (j ∷ jobs) = ap suc (all_titles job_of jobs)

module _ (limits : Limits) (budget : ℕ) (own : Option (List ℕ)) where
  abbrev reports : Theory → ℕ → List Placed → Reached → FileReport
  reports T count cs r = report_from (checking limits budget own) T count cs r

  abbrev over : List Placed → Theory
  over cs = theory_behind limits budget own no_theory cs

  -- within the limit a job's due is the verdict that the theory gives its command
  verdict_is : (T : Theory) (count : ℕ) (c : Placed) (j : TheoryJob) → count < limits.commands → IsJobAt limits budget own T c j → verdict_on limits budget own T count c ≡ due_on j
  verdict_is T count c j lt is =
      ap (λ b. if b then verdict.Refused E08 else scoped_verdict T.signature budget (scoped_at limits budget own T c)) (within_limit limits count lt)
      ∙ ap (scoped_verdict T.signature budget) is.command
      ∙ ap (λ S. verdict_of S j.command budget) (sym is.signature)
      ∙ ap (verdict_of j.signature j.command) (sym is.budget_is)

  -- the commands behind a theory of so many, in front of which stand the commands of the first k jobs, all accepted
  record Splits {J : Type 0} (job_of : J → TheoryJob) (T : Theory) (count : ℕ) (cs : List Placed) (jobs : List (J × Bool)) (k : ℕ) : Type 0 where
    pub done : List Placed
    pub rest : List Placed
    pub commands : cs ≡ done ++ rest
    pub as_many : length done ≡ k
    pub leads : (more : List Placed) (r : Reached) → reports T count (done ++ more) r
        ≡ with_lines (told job_of (take k jobs)) (reports (theory_behind limits budget own T done) (count + k) more r)
    pub later : AreJobsBehind limits budget own (theory_behind limits budget own T done) rest (map (λ (j : J × Bool). job_of j.0) (drop k jobs))

  split : {J : Type 0} (job_of : J → TheoryJob) (T : Theory) (count : ℕ) (cs : List Placed) (jobs : List (J × Bool)) (k : ℕ)
      → AreJobsBehind limits budget own T cs (map (λ (j : J × Bool). job_of j.0) jobs) → count + k ≤ limits.commands → k ≤ length jobs
      → ((i : ℕ) → i < k → (j : J × Bool) → slice_get jobs i ≡ Some j → due_on (job_of j.0) ≡ verdict.Accepted)
      → Splits job_of T count cs jobs k
  split job_of T count cs jobs zero are few within accepted = record {
    done = [];
    rest = cs;
    commands = refl;
    as_many = refl;
    leads = λ more r. ap (λ n. reports T n more r) (let e : count ≡ count + 0 = omega arith in e);
    later = are;
  }
  split job_of T count cs [] (suc k) are few within accepted = absurd (let w : suc k ≤ 0 = within in omega arith)
  split job_of T count [] (j ∷ jobs) (suc k) are few within accepted = absurd are
  split job_of T count (c ∷ cs) (j ∷ jobs) (suc k) are few within accepted =
      let next = theory_with limits budget own T c in
      let s = split job_of next (count + 1) cs jobs k are.1 (omega arith) (omega arith) (λ i lt j' at. accepted (suc i) (omega arith) j' at) in
      let lines = told job_of (take k jobs) in
      record {
        done = c ∷ s.done;
        rest = s.rest;
        commands = ap (λ l. c ∷ l) s.commands;
        as_many = ap suc s.as_many;
        leads = λ more r.
            ap (λ v. by_verdict v count c (shown_on limits budget own T c) (reports next (count + 1) (s.done ++ more) r)) (verdict_is T count c (job_of j.0) (omega arith) are.0 ∙ accepted 0 (omega arith) j refl)
            ∙ ap (with_lines (shown_on limits budget own T c ∷ [])) (s.leads more r)
            ∙ ap (λ (t : PlainShown). with_lines ((t ∷ []) ++ lines) (reports (theory_behind limits budget own next s.done) (count + 1 + k) more r)) (sym (are.0.shown (accepted 0 (omega arith) j refl)))
            ∙ ap (λ n. with_lines (lines_in ((job_of j.0).title ∷ []) ++ lines) (reports (theory_behind limits budget own next s.done) n more r)) (let e : count + 1 + k ≡ count + suc k = omega arith in e);
        later = s.later;
      }

module _ {J : Type 0} (limits : Limits) (budget : ℕ) (own : Option (List ℕ)) (job_of : J → TheoryJob) (w : Walk) (jobs : List (J × Bool)) (es : List Event) where
  abbrev S : ℕ → Type 0
  S k = Splits limits budget own job_of no_theory 0 w.commands jobs k

  abbrev from : Theory → ℕ → List Placed → Reached → FileReport
  from T count cs r = reports limits budget own T count cs r

  -- where memory may have ended behind so many
  abbrev Due : ℕ → Place → Type 0
  Due count place = DueAt w (end_of es) (length jobs) count place

  accepts : ChecksJobsIn limits budget own job_of w jobs es → (k : ℕ) → k ≤ length jobs → ((m : ℕ) → list_any (faults m) es ≡ true → k < m)
      → (i : ℕ) → i < k → (j : J × Bool) → slice_get jobs i ≡ Some j → due_on (job_of j.0) ≡ verdict.Accepted
  accepts checks k within below i lt j at =
      let put : puts es ≡ length jobs = checks.legal.all_put in
      let index : i + 1 - 1 ≡ i = omega arith in
      below_accepted (λ x. due_on (job_of x)) (λ x. is_early_on (job_of x)) jobs es checks.legal checks.finished (i + 1) (omega arith) (omega arith)
      (λ m bad. let far : k < m = below m bad in omega arith)
      j (ap (slice_get jobs) index ∙ at)

  splits : ChecksJobsIn limits budget own job_of w jobs es → (k : ℕ) → k ≤ length jobs → ((m : ℕ) → list_any (faults m) es ≡ true → k < m) → S k
  splits checks k within below =
      let few : length jobs ≤ limits.commands = checks.few in
      split limits budget own job_of no_theory 0 w.commands jobs k checks.jobs_are (omega arith) within (accepts checks k within below)

  -- behind the first commands, which are those of accepted jobs
  module _ (k : ℕ) (within : k ≤ length jobs) (s : S k) where
    -- the report begins with the lines of the jobs
    shown : report_of_walk limits budget own w ≡ with_lines (told job_of (take k jobs)) (from (over limits budget own s.done) k s.rest w.reached)
    shown =
        ap (λ l. from no_theory 0 l w.reached) s.commands
        ∙ s.leads s.rest w.reached
        ∙ ap (λ m. with_lines (told job_of (take k jobs)) (from (over limits budget own s.done) m s.rest w.reached)) (let none : 0 + k ≡ k = omega arith in none)

    done_is : take k w.commands ≡ s.done
    done_is = ap (λ m. take m w.commands) (sym s.as_many) ∙ ap (take (length s.done)) s.commands ∙ front_taken s.done s.rest

    rest_is : drop k w.commands ≡ s.rest
    rest_is = ap (λ m. drop m w.commands) (sym s.as_many) ∙ ap (drop (length s.done)) s.commands ∙ front_dropped s.done s.rest

    -- memory ended at the next command
    cut : (place : Place) → Due k place → IsCut limits budget own w (end_of es) (length jobs) (told job_of (take k jobs)) (k + 1) place
    cut place at = record {
      lines_are = sym (ap (take (length lines)) begins ∙ front_taken lines later);
      within = let e : length (report_of_walk limits budget own w).lines ≡ length lines + length later = ap length begins ∙ length-append lines later in omega (arith, e);
      number_is = ap (λ m. m + 1) (sym as_many);
      memory = subst (λ m. Due m place) (sym as_many) at;
    }
      where
        lines : List PlainShown
        lines = told job_of (take k jobs)

        later : List PlainShown
        later = (from (over limits budget own s.done) k s.rest w.reached).lines

        begins : (report_of_walk limits budget own w).lines ≡ lines ++ later
        begins = ap (λ (r : FileReport). r.lines) shown

        as_many : length lines ≡ k
        as_many = as_many_lines job_of jobs k within

  -- a job is at fault with this verdict, and those before it are due to be accepted
  module _ (k : ℕ) (within : k < length jobs) (s : S k) (j : J × Bool) (more : List (J × Bool)) (later : drop k jobs ≡ j ∷ more) (few : length jobs ≤ limits.commands) where
    next_of : (rest : List Placed) → AreJobsBehind limits budget own (over limits budget own s.done) rest (map (λ (x : J × Bool). job_of x.0) (j ∷ more))
        → (c : Placed) × (cs : List Placed) × (rest ≡ c ∷ cs) × IsJobAt limits budget own (over limits budget own s.done) c (job_of j.0)
    next_of [] are = absurd are
    next_of (c ∷ cs) are = (c, cs, refl, are.0)

    next : (c : Placed) × (cs : List Placed) × (s.rest ≡ c ∷ cs) × IsJobAt limits budget own (over limits budget own s.done) c (job_of j.0)
    next = next_of s.rest (subst (λ (l : List (J × Bool)). AreJobsBehind limits budget own (over limits budget own s.done) s.rest (map (λ (x : J × Bool). job_of x.0) l)) later s.later)

    place_is : (job_of j.0).title.place ≡ place_of (spot_of next.0)
    place_is = next.3.place

    stops : (v : Verdict) → is_accepted v ≡ false → v ≡ due_on (job_of j.0)
        → report_of_walk limits budget own w ≡ record { lines = told job_of (take k jobs); outcome = Stopped (k + 1) (job_of j.0).title.place v }
    stops v other is =
        let T = over limits budget own s.done in
        let ns = told job_of (take k jobs) in
        let n = next in
        let c = n.0 in
        let rest = from (theory_with limits budget own T c) (k + 1) n.1 w.reached in
        shown k (omega arith) s
        ∙ ap (λ l. with_lines ns (from T k l w.reached)) n.2
        ∙ ap (λ u. with_lines ns (by_verdict u k c (shown_on limits budget own T c) rest)) (verdict_is limits budget own T k c (job_of j.0) (omega arith) n.3 ∙ sym is)
        ∙ ap (with_lines ns) (other_ends v k c (shown_on limits budget own T c) rest other)
        ∙ with_no_more ns (stopped_at (k + 1) (spot_of c) v)
        ∙ ap (λ p. let r : FileReport = record { lines = ns; outcome = Stopped (k + 1) p v } in r) (sym place_is)

    -- memory may have ended at its command
    due_here : Due k (job_of j.0).title.place
    due_here = inl (next.0, next.1, rest_is k (omega arith) s ∙ next.2, place_is)

  abbrev Says : List PlainShown → Outcome → Type 0
  Says lines outcome = ReportsTheory limits budget own w (end_of es) (length jobs) lines outcome

  -- the report where a job is at fault
  fault_report : ChecksJobsIn limits budget own job_of w jobs es → (n : ℕ) (v : Verdict) → IsFirstFault es n v
      → Says (told job_of (take (n - 1) jobs)) (Stopped n (place_at (job_titles job_of jobs) n) v)
  fault_report checks n v first = by_cause v first.1 due_so
    where
      due_all : (0 < n) × (n ≤ puts es) × IsDueTo (λ x. due_on (job_of x)) jobs n v
      due_all = answered_due (λ x. due_on (job_of x)) (λ x. is_early_on (job_of x)) jobs es checks.legal n v first.0

      due_so : IsDueTo (λ x. due_on (job_of x)) jobs n v
      due_so = due_all.2

      some : 0 < n
      some = due_all.0

      within : n - 1 < length jobs
      within = let put : puts es ≡ length jobs = checks.legal.all_put in let le : n ≤ puts es = due_all.1 in omega (arith, some)

      number : n - 1 + 1 ≡ n
      number = omega (arith, some)

      here : (j : J × Bool) × (more : List (J × Bool)) × (slice_get jobs (n - 1) ≡ Some j) × (drop (n - 1) jobs ≡ j ∷ more)
      here = at_index jobs (n - 1) within

      s : S (n - 1)
      s = splits checks (n - 1) (omega (arith, within)) (λ m bad. let le : n ≤ m = first.2 m bad in omega (arith, some))

      placed_so : (job_of here.0.0).title.place ≡ place_at (job_titles job_of jobs) n
      placed_so = sym (place_of_title job_of jobs (n - 1) here.0 here.2)

      stopped : (u : Verdict) → is_accepted u ≡ false → u ≡ due_on (job_of here.0.0)
          → report_of_walk limits budget own w ≡ record { lines = told job_of (take (n - 1) jobs); outcome = Stopped n (place_at (job_titles job_of jobs) n) u }
      stopped u other is =
          stops (n - 1) within s here.0 here.1 here.3 checks.few u other is
          ∙ ap (λ m. let r : FileReport = record { lines = told job_of (take (n - 1) jobs); outcome = Stopped m (job_of here.0.0).title.place u } in r) number
          ∙ ap (λ p. let r : FileReport = record { lines = told job_of (take (n - 1) jobs); outcome = Stopped n p u } in r) placed_so

      ended : IsCut limits budget own w (end_of es) (length jobs) (told job_of (take (n - 1) jobs)) n (place_at (job_titles job_of jobs) n)
      ended =
          subst (λ p. IsCut limits budget own w (end_of es) (length jobs) (told job_of (take (n - 1) jobs)) n p) placed_so
          (subst (λ m. IsCut limits budget own w (end_of es) (length jobs) (told job_of (take (n - 1) jobs)) m (job_of here.0.0).title.place) number
          (cut (n - 1) (omega (arith, within)) s (job_of here.0.0).title.place (due_here (n - 1) within s here.0 here.1 here.3 checks.few)))

      due_is : (u : Verdict) → (j : J × Bool) × (slice_get jobs (n - 1) ≡ Some j) × (u ≡ due_on (job_of j.0)) → u ≡ due_on (job_of here.0.0)
      due_is u r = let same : r.0 ≡ here.0 = (let t : Some r.0 ≡ Some here.0 = sym r.1 ∙ here.2 in cc) in r.2 ∙ ap (λ (x : J × Bool). due_on (job_of x.0)) same

      by_cause : (u : Verdict) → is_accepted u ≡ false → IsDueTo (λ x. due_on (job_of x)) jobs n u → Says (told job_of (take (n - 1) jobs)) (Stopped n (place_at (job_titles job_of jobs) n) u)
      by_cause verdict.Accepted other d = cc
      by_cause verdict.Memory other d = inr ended
      by_cause (verdict.Refused code) other (inl e) = cc
      by_cause (verdict.Refused code) other (inr r) = stopped (verdict.Refused code) refl (due_is (verdict.Refused code) r)
      by_cause verdict.Ended other (inl e) = cc
      by_cause verdict.Ended other (inr r) = stopped verdict.Ended refl (due_is verdict.Ended r)

  -- the report goes on behind the jobs, where none of them is at fault
  module _ (s : S (length jobs)) where
    -- the report is that behind the jobs, with their lines
    on_behind : report_of_walk limits budget own w ≡ with_lines (told job_of jobs) (behind limits budget own w (length jobs))
    on_behind =
        let le : length jobs ≤ length jobs = omega arith in
        shown (length jobs) le s
        ∙ ap (λ (l : List (J × Bool)). with_lines (told job_of l) (from (over limits budget own s.done) (length jobs) s.rest w.reached)) (all_taken jobs)
        ∙ ap (λ l. with_lines (told job_of jobs) (from (over limits budget own l) (length jobs) s.rest w.reached)) (sym (done_is (length jobs) le s))
        ∙ ap (λ l. with_lines (told job_of jobs) (from (over limits budget own (take (length jobs) w.commands)) (length jobs) l w.reached)) (sym (rest_is (length jobs) le s))

    -- where nothing is behind the jobs, the report ends as the walk does
    tail_ends : (r : Reached) → drop (length jobs) w.commands ≡ [] → w.reached ≡ r
        → report_of_walk limits budget own w ≡ record { lines = told job_of jobs; outcome = reached_outcome (length jobs) r }
    tail_ends r nothing is =
        let T = over limits budget own (take (length jobs) w.commands) in
        on_behind
        ∙ ap (λ l. with_lines (told job_of jobs) (from T (length jobs) l w.reached)) nothing
        ∙ ap (λ u. with_lines (told job_of jobs) (from T (length jobs) [] u)) is
        ∙ with_no_more (told job_of jobs) (reached_outcome (length jobs) r)

    -- where the next command has another verdict
    next_ends : (o : Outcome) → behind limits budget own w (length jobs) ≡ record { lines = []; outcome = o } → report_of_walk limits budget own w ≡ record { lines = told job_of jobs; outcome = o }
    next_ends o is = on_behind ∙ ap (with_lines (told job_of jobs)) is ∙ with_no_more (told job_of jobs) o

    memory_ends : (place : Place) → end_of es ≡ Some (end.Fault place verdict.Memory) → EndsReading limits budget own w (length jobs) (end.Fault place verdict.Memory) → (b : Bool) → eqb place.line 0 ≡ b
        → Says (told job_of jobs) (if b then Stopped 0 nowhere verdict.Memory else Stopped (length jobs + 1) place verdict.Memory)
    memory_ends place at (inl none) true e = inl (no_lines job_of jobs none.0, refl, refl)
    memory_ends place at (inl none) false e = absurd (let f : eqb 0 0 ≡ false = sym (ap (λ (p : Place). eqb p.line 0) none.1) ∙ e in cc)
    memory_ends place at (inr some) true e = absurd (let z : place.line ≡ 0 = eqb-true place.line 0 e in omega (arith, z, some))
    memory_ends place at (inr some) false e =
        inr (subst (λ (l : List (J × Bool)). IsCut limits budget own w (end_of es) (length jobs) (told job_of l) (length jobs + 1) place) (all_taken jobs) (cut (length jobs) (omega arith) s place (inr (refl, at))))

    ends_by : (x : End) → end_of es ≡ Some x → (x ≡ end.Stopped → ⊥) → EndsReading limits budget own w (length jobs) x → Says (told job_of jobs) (end_outcome (length jobs) (Some x))
    ends_by end.Whole at open_end is = tail_ends (goes_on is.1.0) is.0 is.1.1
    ends_by (end.Unread place) at open_end is =
        subst (λ p. Says (told job_of jobs) (Unread (length jobs + 1) p)) (sym is.1.2) (tail_ends (ends (unread_at is.1.0)) is.0 is.1.1)
    ends_by (end.Unopened m) at open_end is = tail_ends (ends (not_opened is.1.0 m)) is.0 is.1.1
    ends_by end.Stopped at open_end is = absurd (open_end refl)
    ends_by (end.Fault place verdict.Memory) at open_end is = memory_ends place at is (eqb place.line 0) refl
    ends_by (end.Fault place verdict.Accepted) at open_end is = next_ends (Stopped (length jobs + 1) place verdict.Accepted) is
    ends_by (end.Fault place (verdict.Refused code)) at open_end is = next_ends (Stopped (length jobs + 1) place (verdict.Refused code)) is
    ends_by (end.Fault place verdict.Ended) at open_end is = next_ends (Stopped (length jobs + 1) place verdict.Ended) is

  -- the report where no job is at fault
  end_report : ChecksTheory limits budget own job_of w jobs es → list_any is_fault es ≡ false → Says (told job_of jobs) (end_outcome (length jobs) (end_of es))
  end_report checks clean =
      let e = has_end es checks.checks.finished.sealed in
      let s = splits checks.checks (length jobs) (omega arith) (λ m bad. absurd (let t : list_any is_fault es ≡ true = fault_any m es bad in cc)) in
      subst (λ o. Says (told job_of jobs) (end_outcome (length jobs) o)) (sym e.1)
      (ends_by s e.0 e.1
      (λ is. let t = stopped_fault _ es checks.checks.legal.lawful (e.1 ∙ ap Some is) in cc)
      (checks.ends e.0 e.1))

  -- the report by the first fault, if there is one
  report_by_fault : ChecksJobsIn limits budget own job_of w jobs es
      → (list_any is_fault es ≡ false → Says (told job_of jobs) (end_outcome (length jobs) (end_of es)))
      → (f : Option (ℕ × Verdict)) → IsFirst es f → (report : FileReport) → report ≡ report_with (job_titles job_of jobs) f (end_of es)
      → Says report.lines report.outcome
  report_by_fault checks clean None f report is =
      subst (λ (r : FileReport). Says r.lines r.outcome) (sym is)
      (subst (λ n. Says (told job_of jobs) (end_outcome n (end_of es))) (sym (all_titles job_of jobs)) (clean f))
  report_by_fault checks clean (Some f) first report is =
      subst (λ (r : FileReport). Says r.lines r.outcome) (sym is)
      (subst (λ ns. Says ns (Stopped f.0 (place_at (job_titles job_of jobs) f.0) f.1)) (sym (lines_taken job_of jobs (f.0 - 1)))
      (fault_report checks f.0 f.1 first))

-- the laws
pub theory_reports : {J : Type 0} (limits : Limits) (budget : ℕ) (own : Option (List ℕ)) (job_of : J → TheoryJob) (w : Walk) (jobs : List (J × Bool)) (es : List Event) (report : FileReport)
    → ChecksTheory limits budget own job_of w jobs es → IsReportOf (job_titles job_of jobs) es report → ReportsTheory limits budget own w (end_of es) (length jobs) report.lines report.outcome
theory_reports limits budget own job_of w jobs es report checks r =
    report_by_fault limits budget own job_of w jobs es checks.checks (end_report limits budget own job_of w jobs es checks) r.0 r.1 report r.2

pub theory_faults : {J : Type 0} (limits : Limits) (budget : ℕ) (own : Option (List ℕ)) (job_of : J → TheoryJob) (w : Walk) (jobs : List (J × Bool)) (es : List Event) (report : FileReport)
    → ChecksJobsIn limits budget own job_of w jobs es → list_any is_fault es ≡ true → IsReportOf (job_titles job_of jobs) es report → ReportsTheory limits budget own w (end_of es) (length jobs) report.lines report.outcome
theory_faults limits budget own job_of w jobs es report checks faulty r =
    report_by_fault limits budget own job_of w jobs es checks (λ clean. absurd (let e : true ≡ false = sym faulty ∙ clean in cc)) r.0 r.1 report r.2
