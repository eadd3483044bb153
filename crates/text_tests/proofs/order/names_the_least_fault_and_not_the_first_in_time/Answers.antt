use Rattle.std.proofs.Common.{ℕ, sym, subst}
use Rattle.board_core.specs.Machine.{Holds, HoldsNone}
use Rattle.text_tests.proofs.Idle.{idle_of_two}
use Rattle.text_tests.proofs.order.names_the_least_fault_and_not_the_first_in_time.Goals as goal

pub both_claim-requires : goal.both_claim-requires
both_claim-requires g c = λ w. c.put.ensures.idle w (c.two_jobs-book.ensures.idle w)

pub answer-requires : goal.answer-requires
answer-requires g c = subst (λ b. Holds 2 2 b.events) (sym c.refused.ensures.kept) c.last_is_refused.ensures.holds

pub fault_of_sealed-first-requires-clause-idle : goal.fault_of_sealed-first-requires-clause-idle
fault_of_sealed-first-requires-clause-idle g c = λ w.
    let none : (u : ℕ) → HoldsNone u c.last_is_refused.new.book.events → HoldsNone u c.answer.new.book.events = λ u h. c.answer.ensures.still u (subst (λ b. HoldsNone u b.events) (sym c.refused.ensures.kept) h) in
    c.seal_stopped.ensures.idle w (subst (λ b. HoldsNone w b.events) (sym c.refused-2.ensures.kept)
    (idle_of_two c.answer.new.book.events
    (none 1 c.last_is_refused.ensures.idle)
    c.answer.ensures.idle
    (λ u one two. none u (c.last_is_refused.ensures.others u one (c.both_claim.ensures.others u one two)))
    w))
