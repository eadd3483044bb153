use Rattle.std.proofs.Common.{sym, subst, refl}
use Rattle.board_core.specs.Machine.{HoldsNone}
use Rattle.board_core.specs.declared.event.End.TheVariants.{Stopped}
use Rattle.board_core.specs.declared.event.Event.TheVariants.{Seal}
use Rattle.board_core.proofs.Lawful.{still_none}
use Rattle.text_tests.proofs.order.seal_stopped.Goals as goal

pub returns-clause-idle : goal.returns-clause-idle
returns-clause-idle c = λ w none. subst (λ b. HoldsNone w b.events) (sym c.seal.ensures) (still_none w c.args.book.now.events (Seal Stopped) none (λ n. refl))
