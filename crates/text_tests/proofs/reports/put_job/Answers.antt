use Rattle.std.proofs.Common.{sym, subst, refl}
use Rattle.board_core.specs.Machine.{HoldsNone}
use Rattle.board_core.specs.declared.event.Event.TheVariants.{Put}
use Rattle.board_core.proofs.Lawful.{still_none}
use Rattle.text_tests.proofs.reports.put_job.Goals as goal

pub returns-clause-idle : goal.returns-clause-idle
returns-clause-idle g c = λ w none. subst (λ b. HoldsNone w b.events) (sym c.in-Ok.ensures.ok) (still_none w c.args.book.now.events (Put c.in-Ok.field-0) none (λ n. refl))
