-- The books of a theory that is reported as accepted, read again.
use Rattle.std.proofs.Common.{◌≡◌, inl, inr, ℕ, sym, ap, subst, ◌∙◌}
use Rattle.std.specs.Prelude.{Ok, Err}
use Rattle.dk_model.specs.declared.code.Verdict.TheVariants as verdict
use Rattle.board_core.specs.declared.event.Place.{Place}
use Rattle.verdict_book.specs.Report.{FileReport}
use Rattle.verdict_book.specs.declared.outcome.Outcome.TheVariants.{Accepted, Stopped}
use Rattle.file_report.specs.Outcomes.{no_theory}
use Rattle.file_report.specs.Folds.{fold_of}
use Rattle.file_report.specs.Theories.{checking}
use Rattle.file_report.proofs.Folding.{fold_is_report}
use Rattle.book_reader.specs.Shelved.{whole_library}
use Rattle.theory_reading.specs.declared.reading.ReadingEnd.TheVariants as end
use Rattle.theory_reading.specs.Laws.{CheckEndsAsRead, EndsAsRead}
use Rattle.theory_reading.specs.Shaped.{no_commands, reading}
use Rattle.accepted_theory.specs.Laws.{AcceptedAreRead, AreAllAccepted, ReportedAreAccepted, ReportedAreRead, ToldAreRead}

not_stopped : {X : Type 0} (count number : ℕ) (place : Place) (v : _) → Accepted count ≡ Stopped number place v → X
not_stopped count number place v e = absurd cc

read_as : (checked read : FileReport) (count : ℕ) → EndsAsRead checked read → checked.outcome ≡ Accepted count → read.outcome ≡ Accepted count
read_as checked read count (inl same) is = sym same ∙ is
read_as checked read count (inr stops) is = not_stopped count stops.0 stops.1 stops.2 (sym is ∙ stops.3)

pub are_read : CheckEndsAsRead → ReportedAreRead
are_read law s budget lib count is =
    read_as (fold_of (checking s.limits budget s.own) s.most s.own lib no_theory) (fold_of (reading s.limits s.own) s.most s.own lib no_commands) count (law s.limits budget s.most s.own lib) is

module _ (law : CheckEndsAsRead) (accepted : ReportedAreAccepted) where
  pub reads_accepted : AcceptedAreRead
  reads_accepted s budget count new (Ok commands) is reads = subst (λ cs. AreAllAccepted budget count cs) reads.1 (accepted s budget (whole_library s) count is)
  reads_accepted s budget count new (Err (end.Refused number place code)) is reads =
      not_stopped count number place (verdict.Refused code) (sym (are_read law s budget (whole_library s) count is) ∙ reads)
  reads_accepted s budget count new (Err (end.Unread number place)) is reads = tt
  reads_accepted s budget count new (Err (end.Unopened m)) is reads = tt
  reads_accepted s budget count new (Err end.NoFile) is reads = tt
  reads_accepted s budget count new (Err end.NoMemory) is reads = tt

  pub told_accepted : ToldAreRead
  told_accepted s budget count lines new result is reads =
      reads_accepted s budget count new result
      (ap (λ (r : FileReport). r.outcome) (fold_is_report (checking s.limits budget s.own) s.most s.own (whole_library s) no_theory ∙ is)) reads
