use Rattle.std.proofs.Common.{◌≡◌, ◌≢◌, ◌∙◌, refl, subst, sym}
use Rattle.command_line.specs.Views.{plain_certify}
use Rattle.verdict_book.specs.Report.{last_line, status_of}
use Rattle.verdict_book.specs.declared.outcome.Outcome.{Outcome}
use Rattle.dk_check_run.specs.Certify.{last_of}
use Rattle.dk_check_run.specs.Run.{Writes, sink_of}
use Rattle.dk_check_run.proofs.CertifyRows.{not_zero}
use Rattle.dk_check_run.proofs.certifying.put_other.Goals as goal

pub returns-in-Accepted : goal.returns-in-Accepted
returns-in-Accepted g c = λ report is. ((c.in-Accepted.field-0, sym (c.outcome_of.ensures.value report is) ∙ c.in-Accepted.is), refl)

pub returns : goal.returns
returns g c = λ report is.
    let q = plain_certify c.args.request.now in
    let same : c.outcome_of.result ≡ report.outcome = c.outcome_of.ensures.value report is in
    let other : status_of c.outcome_of.result ≢ 0 = not_zero c.outcome_of.result c.in_default.not-Accepted c.outcome_of.ensures.fault in (
      subst (λ (o : Outcome). status_of o ≢ 0) same other,
      subst (λ (o : Outcome). Writes (sink_of g.K.Sink c.args.sink.now) (sink_of g.K.Sink c.put_outcome.new.sink) (last_of q o) (status_of o) c.put_outcome.result) same
          (subst (λ folder. Writes (sink_of g.K.Sink c.args.sink.now) (sink_of g.K.Sink c.put_outcome.new.sink) (last_line c.outcome_of.result q.budget folder) (status_of c.outcome_of.result) c.put_outcome.result)
          c.folder_of-folder.ensures c.put_outcome.ensures),
    )
