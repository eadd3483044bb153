use Rattle.std.proofs.Common.{sym, subst, refl}
use Rattle.board_core.specs.Machine.{HoldsNone}
use Rattle.board_core.specs.declared.event.Event.TheVariants.{Seal}
use Rattle.board_core.proofs.Lawful.{still_none}
use Rattle.text_tests.proofs.reports.seal.Goals as goal

pub returns-clause-idle : goal.returns-clause-idle
returns-clause-idle g c = λ w none. subst (λ b. HoldsNone w b.events) (sym c.seal.ensures) (still_none w c.args.book.now.events (Seal c.args.end) none (λ n. refl))
