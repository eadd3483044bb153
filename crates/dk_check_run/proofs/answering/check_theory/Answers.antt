use Rattle.std.proofs.Common.{◌≡◌, [], ◌∷◌, ap, refl, subst, ◌∙◌, length}
use Rattle.std.specs.Prelude.{Option, Some}
use Rattle.dk_io.specs.Bytes.{Books}
use Rattle.dk_make.specs.Texts.{TextState}
use Rattle.dk_make.specs.Theory.{theory_of}
use Rattle.command_line.specs.Views.{plain_make}
use Rattle.verdict_book.specs.Report.{status_of}
use Rattle.dk_check_run.specs.Run.{Writes, made_line, sink_of}
use Rattle.dk_check_run.specs.Summaries.{text_by}
use Rattle.dk_check_run.proofs.MakeRows.{made_row, no_memory_row}
use Rattle.dk_check_run.proofs.answering.check_theory.Goals as goal

pub returns-in_default : goal.returns-in_default
returns-in_default g c = λ shelf. no_memory_row _ _ shelf _ _ _ c.put_memory.ensures

pub returns-in_default-root_of : goal.returns-in_default-root_of
returns-in_default-root_of g c = λ shelf. no_memory_row _ _ shelf _ _ _ c.put_memory-in_default-root_of.ensures

pub returns : goal.returns
returns g c = λ shelf. no_memory_row _ _ shelf _ _ _ c.put_memory-in-Err.ensures

pub returns-in-Ok-check_books : goal.returns-in-Ok-check_books
returns-in-Ok-check_books g c = λ shelf.
    let q = c.args.request.now in
    let made = c.in-Ok.ensures in
    let checks = c.in-Ok-check_books.ensures.checks in
    let book : TextState → Option Books = λ t. Some (([], t.bytes) ∷ []) in
    let size_is : c.size-size.result ≡ length (theory_of q.count) = c.size-size.ensures ∙ ap (λ (t : TextState). length t.bytes) made in
    let outcome_is = c.outcome_of-outcome.ensures.value checks.report checks.report_is in
    made_row c.args.limits (plain_make q) shelf _ _ _ c.in-Ok-root_of.root c.in-Ok-root_of.ensures _ _ _ _ checks (ap book made) refl refl
    (subst (λ o. Writes (sink_of g.K.Sink c.args.sink.now) (sink_of g.K.Sink c.put_summary.new.sink) (text_by (made_line q.count (length (theory_of q.count))) q.budget o) (status_of o) c.put_summary.result) outcome_is
    (subst (λ n. Writes (sink_of g.K.Sink c.args.sink.now) (sink_of g.K.Sink c.put_summary.new.sink) (text_by (made_line q.count n) q.budget c.outcome_of-outcome.result) (status_of c.outcome_of-outcome.result) c.put_summary.result) size_is c.put_summary.ensures))
