use Rattle.std.proofs.Common.{arith, length, sym, ap, subst, ◌∙◌, Some, None}
use Rattle.board_core.specs.Machine.{marks_of}
use Rattle.std.specs.Option.{option_copied}
use Rattle.verdict_book.specs.Report.{FileReport}
use Rattle.verdict_book.specs.Books.{end_outcome}
use Rattle.verdict_book.specs.Stops.{EndsByItself}
use Rattle.verdict_book.specs.declared.outcome.Outcome.TheVariants.{Stopped}
use Rattle.verdict_book.proofs.Answered.{ends_by_itself, first_put}
use Rattle.verdict_book.proofs.Exists.{report_by}
use Rattle.verdict_book.proofs.book.outcome_of.Goals as goal

pub place-requires : goal.place-requires
place-requires g c =
    let put = first_put (marks_of c.args.book.now.jobs) c.args.book.now.events c.history.ensures.lawful c.in-Some.number c.in-Some.verdict c.in-Some.ensures.first in
    (put.0, omega (arith, put.1, c.history.ensures.all_put, c.requires.all))

pub own_outcome-requires-clause-own : goal.own_outcome-requires-clause-own
own_outcome-requires-clause-own g c =
    subst EndsByItself (sym c.end.ensures) (ends_by_itself (marks_of c.args.book.now.jobs) c.args.book.now.events c.history.ensures.lawful c.requires.finished.sealed c.in-None.ensures.none)

pub returns-in-Some-clause-value : goal.returns-in-Some-clause-value
returns-in-Some-clause-value g c = λ report is.
    ap (λ p. Stopped c.in-Some.number p c.in-Some.verdict) c.place.ensures
    ∙ ap (λ (r : FileReport). r.outcome) (sym (report_by c.args.titles.now c.args.book.now.events report (Some (c.in-Some.number, c.in-Some.verdict)) is c.in-Some.ensures.first))

pub returns-in-None-clause-value : goal.returns-in-None-clause-value
returns-in-None-clause-value g c = λ report is.
    c.own_outcome.ensures.value
    ∙ ap (λ n. end_outcome n (option_copied c.end.result)) c.len.ensures
    ∙ ap (end_outcome (length c.args.titles.now)) c.end.ensures
    ∙ ap (λ (r : FileReport). r.outcome) (sym (report_by c.args.titles.now c.args.book.now.events report None is c.in-None.ensures.none))
