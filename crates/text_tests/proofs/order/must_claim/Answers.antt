use Rattle.std.proofs.Common.{◌&&◌, eqb, sym, subst, ap, ne_eqb}
use Rattle.board_core.specs.Machine.{Holds, HoldsNone}
use Rattle.board_core.specs.declared.event.Event.TheVariants.{Claim}
use Rattle.board_core.proofs.Lawful.{still_none}
use Rattle.text_tests.proofs.order.must_claim.Goals as goal

pub returns-clause-holds : goal.returns-clause-holds
returns-clause-holds g c = subst (λ n. Holds c.args.worker n c.claim.new.self.events) c.if-number-want.false c.in-Task.ensures.holds

pub returns-clause-idle : goal.returns-clause-idle
returns-clause-idle g c = λ u other none. subst (λ b. HoldsNone u b.events) (sym c.in-Task.ensures.reply.2)
    (still_none u c.args.book.now.events (Claim c.args.worker c.in-Task.field-0.number) none (λ n. ap (λ b. b && eqb c.in-Task.field-0.number n) (ne_eqb c.args.worker u (λ e. other (sym e)))))
