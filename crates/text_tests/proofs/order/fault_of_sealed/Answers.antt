use Rattle.std.proofs.Common.{sym, subst}
use Rattle.board_core.specs.Machine.{IsFinished, marks_of}
use Rattle.text_tests.proofs.order.fault_of_sealed.Goals as goal

pub claim-requires : goal.claim-requires
claim-requires c = c.requires.idle 1

pub first_fault-requires : goal.first_fault-requires
first_fault-requires c = subst (λ b. IsFinished (marks_of b.jobs) b.events) (sym c.in-Over.ensures.reply.0)
    (c.finished_when_drained.ensures (marks_of c.args.book.now.jobs) c.args.book.now.events c.requires.sealed c.requires.idle c.in-Over.ensures.reply.1)
