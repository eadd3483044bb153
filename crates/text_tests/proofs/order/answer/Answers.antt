use Rattle.std.proofs.Common.{sym, subst, refl}
use Rattle.board_core.specs.Machine.{HoldsNone}
use Rattle.board_core.specs.declared.event.Event.TheVariants.{Answer}
use Rattle.board_core.proofs.Lawful.{still_none}
use Rattle.text_tests.proofs.order.answer.Goals as goal

pub returns-clause-still : goal.returns-clause-still
returns-clause-still c = λ u none. subst (λ b. HoldsNone u b.events) (sym c.answer.ensures.added) (still_none u c.args.book.now.events (Answer c.args.worker c.args.number c.args.verdict) none (λ n. refl))
