use Rattle.std.proofs.Common.{ap, ◌∙◌, length, sym, subst, Err}
use Rattle.dk_io.specs.Writing.{Wrote}
use Rattle.dk_io.specs.declared.shelf.Failed.{Failed}
use Rattle.dk_io.proofs.Gather.{wrote_whole, wrote_cut}
use Rattle.verdict_book.specs.Books.{IsReportOf}
use Rattle.verdict_book.specs.Report.{report_of}
use Rattle.verdict_book.proofs.Naming.{titled_length}
use Rattle.verdict_book.proofs.book.write_report.Goals as goal

pub before_fault-before-requires-clause-all : goal.before_fault-before-requires-clause-all
before_fault-before-requires-clause-all g c =
    let t = c.as_slice.result in sym (titled_length t.modules.now t.texts.now t.spots.now) ∙ ap length c.as_slice.ensures.titles ∙ c.requires.all

pub returns-in-Ok-clause-wrote : goal.returns-in-Ok-clause-wrote
returns-in-Ok-clause-wrote g c = λ report is.
    subst (λ text. Wrote {E = Failed} (g.K.Sink.taken c.args.sink.now) (g.K.Sink.taken c.flush.new.sink) text c.flush.result)
    (ap (λ lines. report_of lines c.outcome_of-outcome.result c.args.budget c.args.quiet c.args.folder.now) (c.before_fault-before.ensures.lines report (subst (λ ts. IsReportOf ts c.args.book.now.events report) (sym c.as_slice.ensures.titles) is))
    ∙ ap (λ outcome. report_of report.lines outcome c.args.budget c.args.quiet c.args.folder.now) (c.outcome_of-outcome.ensures.value report is))
    (wrote_whole c.new-buffer.ensures c.in-Ok.ensures.put c.flush.ensures.wrote)

pub returns-in-Err-clause-wrote : goal.returns-in-Err-clause-wrote
returns-in-Err-clause-wrote g c = λ report is.
    subst (λ text. Wrote {E = Failed} (g.K.Sink.taken c.args.sink.now) (g.K.Sink.taken c.put_lines.new.sink) text (Err c.in-Err.failed))
    (ap (λ lines. report_of lines c.outcome_of-outcome.result c.args.budget c.args.quiet c.args.folder.now) (c.before_fault-before.ensures.lines report (subst (λ ts. IsReportOf ts c.args.book.now.events report) (sym c.as_slice.ensures.titles) is))
    ∙ ap (λ outcome. report_of report.lines outcome c.args.budget c.args.quiet c.args.folder.now) (c.outcome_of-outcome.ensures.value report is))
    (wrote_cut c.new-buffer.ensures c.in-Err.ensures.put)
