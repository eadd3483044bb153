use Rattle.std.proofs.Common.{sym, subst, ap, ◌∙◌}
use Rattle.board_core.specs.Machine.{HoldsNone, IsFinished, marks_of}
use Rattle.board_core.specs.Shown.{added}
use Rattle.board_core.specs.declared.event.Event.TheVariants.{Answer}
use Rattle.verdict_book.proofs.Idle.{idle_again}
use Rattle.text_tests.proofs.reports.answer_one.Goals as goal

pub claim-requires : goal.claim-requires
claim-requires g c = c.requires.idle 1

pub returns-in-Task-clause-idle : goal.returns-in-Task-clause-idle
returns-in-Task-clause-idle g c = λ w.
    let number = c.in-Task.field-0.number in
    let verdict = c.deref.result.now in
    let is = c.answer.ensures.added ∙ ap (λ b. added b (Answer 1 number verdict)) c.in-Task.ensures.reply.2 in
    subst (λ b. HoldsNone w b.events) (sym is)
    (idle_again 1 number verdict c.args.book.now.events c.requires.idle (subst (λ b. HoldsNone 1 b.events) is c.answer.ensures.idle) w)

pub returns-in-Over-clause-idle : goal.returns-in-Over-clause-idle
returns-in-Over-clause-idle g c = λ w. subst (λ b. HoldsNone w b.events) (sym c.in-Over.ensures.reply.0) (c.requires.idle w)

pub returns-in-Over-clause-over : goal.returns-in-Over-clause-over
returns-in-Over-clause-over g c = λ over.
    subst (λ b. IsFinished (marks_of b.jobs) b.events) (sym c.in-Over.ensures.reply.0)
    (c.finished_when_drained.ensures (marks_of c.args.book.now.jobs) c.args.book.now.events c.requires.sealed c.requires.idle c.in-Over.ensures.reply.1)
