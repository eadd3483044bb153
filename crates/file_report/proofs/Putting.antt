-- The jobs of a theory's reader, one at a time, and its own faults.
use Rattle.std.proofs.Common.{◌≡◌, ℕ, suc, ◌+◌, false, List, [], ◌∷◌, ◌++◌, length, drop, refl, sym, ap, ◌∙◌, arith, append-nil, Option}
use Rattle.dk_model.specs.declared.limits.Limits.{Limits}
use Rattle.dk_model.specs.declared.code.Code.{Code}
use Rattle.dk_model.specs.declared.code.Verdict.{Verdict}
use Rattle.dk_model.specs.declared.code.Verdict.TheVariants.{Refused}
use Rattle.theory_walk.specs.Walks.{Placed, Reached, Spot, Walk, ends, refused_at, spot_of}
use Rattle.board_core.specs.Events.{is_accepted}
use Rattle.verdict_book.specs.Report.{FileReport}
use Rattle.file_report.specs.Outcomes.{Theory, no_theory}
use Rattle.file_report.specs.TheoryReports.{by_verdict, report_from}
use Rattle.file_report.specs.Reports.{stopped_at}
use Rattle.file_report.specs.Jobs.{AreJobsBehind, IsJobAt, TheoryJob, theory_behind}
use Rattle.file_report.specs.Theories.{checking, shown_on, theory_with, verdict_on}
use Rattle.file_report.specs.Histories as law
use Rattle.file_report.proofs.Fronts.{front_dropped, front_taken}
use Rattle.file_report.proofs.Law.{other_ends}

module _ (limits : Limits) (budget : ℕ) (own : Option (List ℕ)) where
  pub theory_more : (T : Theory) (done : List Placed) (c : Placed) → theory_behind limits budget own T (done ++ c ∷ []) ≡ theory_with limits budget own (theory_behind limits budget own T done) c
  theory_more T [] c = refl
  theory_more T (d ∷ done) c = theory_more (theory_with limits budget own T d) done c

  pub jobs_more : (T : Theory) (done : List Placed) (jobs : List TheoryJob) (c : Placed) (j : TheoryJob) → AreJobsBehind limits budget own T done jobs → length jobs ≡ length done
      → IsJobAt limits budget own (theory_behind limits budget own T done) c j → AreJobsBehind limits budget own T (done ++ c ∷ []) (jobs ++ j ∷ [])
  jobs_more T [] [] c j are long is = (is, tt)
  jobs_more T [] (x ∷ jobs) c j are long is = absurd are
  jobs_more T (d ∷ done) [] c j are long is = absurd (let e : 0 ≡ suc (length done) = long in omega arith)
  jobs_more T (d ∷ done) (x ∷ jobs) c j are long is =
      (are.0, jobs_more (theory_with limits budget own T d) done jobs c j are.1 (let e : suc (length jobs) ≡ suc (length done) = long in omega arith) is)

  pub jobs_wider : (T : Theory) (done later : List Placed) (jobs : List TheoryJob) → AreJobsBehind limits budget own T done jobs → AreJobsBehind limits budget own T (done ++ later) jobs
  jobs_wider T done later [] are = tt
  jobs_wider T [] later (j ∷ jobs) are = absurd are
  jobs_wider T (c ∷ done) later (j ∷ jobs) are = (are.0, jobs_wider (theory_with limits budget own T c) done later jobs are.1)

  abbrev from : List Placed → ℕ → List Placed → Reached → FileReport
  from done count rest r = report_from (checking limits budget own) (theory_behind limits budget own no_theory done) count rest r

  behind : (w : Walk) (done rest : List Placed) → w.commands ≡ done ++ rest → law.behind limits budget own w (length done) ≡ from done (length done) rest w.reached
  behind w done rest is =
      ap (λ l. law.behind limits budget own (record { commands = l; reached = w.reached }) (length done)) is
      ∙ ap (λ l. from l (length done) (drop (length done) (done ++ rest)) w.reached) (front_taken done rest)
      ∙ ap (λ l. from done (length done) l w.reached) (front_dropped done rest)

  -- the next command has another verdict
  pub next_refused : (w : Walk) (done later : List Placed) (c : Placed) (v : Verdict) → w.commands ≡ done ++ c ∷ later
      → verdict_on limits budget own (theory_behind limits budget own no_theory done) (length done) c ≡ v → is_accepted v ≡ false
      → law.behind limits budget own w (length done) ≡ record { lines = []; outcome = stopped_at (length done + 1) (spot_of c) v }
  next_refused w done later c v is verdict other =
      let T = theory_behind limits budget own no_theory done in
      let shown = shown_on limits budget own T c in
      let rest = report_from (checking limits budget own) (theory_with limits budget own T c) (length done + 1) later w.reached in
      behind w done (c ∷ later) is
      ∙ ap (λ u. by_verdict u (length done) c shown rest) verdict
      ∙ other_ends v (length done) c shown rest other

  -- the walk ends at a code
  pub tail_refused : (w : Walk) (done : List Placed) (spot : Spot) (code : Code) → w.commands ≡ done → w.reached ≡ ends (refused_at spot code)
      → law.behind limits budget own w (length done) ≡ record { lines = []; outcome = stopped_at (length done + 1) spot (Refused code) }
  tail_refused w done spot code commands is =
      behind w done [] (commands ∙ sym (append-nil done))
      ∙ ap (λ r. from done (length done) [] r) is
