-- The commands of a theory, one after the other, where nothing is typed.
use Rattle.std.proofs.Common.{◌≡◌, ℕ, ◌+◌, List, [], ◌∷◌, ◌++◌, length, refl, sym, ap, ◌∙◌, append_assoc, append-nil, length-append}
use Rattle.dk_model.specs.declared.code.Code.{Code}
use Rattle.dk_model.specs.declared.code.Verdict.{Verdict}
use Rattle.dk_model.specs.declared.code.Verdict.TheVariants as verdict
use Rattle.dk_model.specs.declared.limits.Limits.{Limits}
use Rattle.scope_terms.specs.Scopes.{Module}
use Rattle.theory_walk.specs.Libraries.{Library}
use Rattle.theory_walk.specs.Walks.{Placed, Reached, Walk, spot_of}
use Rattle.verdict_book.specs.Report.{FileReport, PlainShown}
use Rattle.verdict_book.specs.declared.outcome.Outcome.{Outcome}
use Rattle.file_report.specs.Reports.{reached_outcome, stopped_at}
use Rattle.file_report.specs.TheoryReports.{by_verdict, report_from}
use Rattle.file_report.proofs.Folding.{fold_is_report}
use Rattle.book_reader.specs.Ends.{walk_with}
use Rattle.book_reader.specs.Shelved.{Setting, walk_in}
use Rattle.theory_reading.specs.Readers.{ArePassed, outcome_from}
use Rattle.theory_reading.specs.Reads.{outcome_in}
use Rattle.theory_reading.specs.Shaped.{ScopedTheory, no_commands, reading, theory_behind}

by_accepted : (v : Verdict) (count : ℕ) (c : Placed) (shown : PlainShown) (rest : FileReport) → v ≡ verdict.Accepted → (by_verdict v count c shown rest).outcome ≡ rest.outcome
by_accepted verdict.Accepted count c shown rest is = refl
by_accepted (verdict.Refused code) count c shown rest is = cc
by_accepted verdict.Ended count c shown rest is = cc
by_accepted verdict.Memory count c shown rest is = cc

module _ (limits : Limits) (own : Module) where
  abbrev behind : List Placed → ScopedTheory
  behind done = theory_behind limits own no_commands done

  abbrev due : List Placed → Placed → Verdict
  due done c = (reading limits own).verdict_on (behind done) (length done) c

  pub behind_more : (T : ScopedTheory) (done : List Placed) (c : Placed) → theory_behind limits own T (done ++ c ∷ []) ≡ (reading limits own).after (theory_behind limits own T done) c
  behind_more T [] c = refl
  behind_more T (d ∷ done) c = behind_more ((reading limits own).after T d) done c

  pub passed_none : ArePassed limits own []
  passed_none later r = refl

  pub passed_more : (done : List Placed) (c : Placed) → ArePassed limits own done → due done c ≡ verdict.Accepted → ArePassed limits own (done ++ c ∷ [])
  passed_more done c passed is later r =
      ap (λ cs. outcome_from limits own no_commands 0 cs r) (append_assoc done (c ∷ []) later)
      ∙ passed (c ∷ later) r
      ∙ by_accepted (due done c) (length done) c ((reading limits own).shown_on (behind done) c) (report_from (reading limits own) ((reading limits own).after (behind done) c) (length done + 1) later r) is
      ∙ ap (λ T. outcome_from limits own T (length done + 1) later r) (sym (behind_more no_commands done c))
      ∙ ap (λ n. outcome_from limits own (behind (done ++ c ∷ [])) n later r) (sym (length-append done (c ∷ [])))

  abbrev outcome_of : Walk → Outcome
  outcome_of w = outcome_from limits own no_commands 0 w.commands w.reached

  module _ (done : List Placed) (passed : ArePassed limits own done) where
    -- where the walk has no other commands
    pub ended_so : (w : Walk) (r : Reached) → w ≡ walk_with done r → outcome_of w ≡ reached_outcome (length done) r
    ended_so w r is = ap outcome_of is ∙ ap (λ cs. outcome_from limits own no_commands 0 cs r) (sym (append-nil done)) ∙ passed [] r

    -- where the next command has a code
    pub refused_so : (w : Walk) (c : Placed) (later : List Placed) (code : Code) → w.commands ≡ done ++ c ∷ later → due done c ≡ verdict.Refused code
        → outcome_of w ≡ stopped_at (length done + 1) (spot_of c) (verdict.Refused code)
    refused_so w c later code is told =
        ap (λ cs. outcome_from limits own no_commands 0 cs w.reached) is
        ∙ passed (c ∷ later) w.reached
        ∙ ap (λ v. (by_verdict v (length done) c ((reading limits own).shown_on (behind done) c) (report_from (reading limits own) ((reading limits own).after (behind done) c) (length done + 1) later w.reached)).outcome) told

-- the fold of the books is that of their commands
pub outcome_is : (s : Setting) (lib : Library) → outcome_in s lib ≡ outcome_of s.limits s.own (walk_in s lib)
outcome_is s lib = ap (λ (r : FileReport). r.outcome) (fold_is_report (reading s.limits s.own) s.most s.own lib no_commands)
