use Rattle.std.proofs.Common.{rules, arith, sym, subst}
use Rattle.board_core.specs.Machine.{Allowed, marks_of}
use Rattle.board_core.specs.declared.event.Event.TheVariants.{Answer}
use Rattle.board_core.proofs.Lawful.{idle_after}
use Rattle.board_core.proofs.Stepping.{count_steps, events_snoc}
use Rattle.board_core.specs.declared.history.Step.{Step}
use Rattle.board_core.proofs.Keeping.{at_verdict, answer_keeps, answer_room}
use Rattle.board_core.proofs.book.Book.answer.Goals as goal

pub overflow_sub-at : goal.overflow_sub-at
overflow_sub-at g c = let ok = subst (λ b. Allowed (marks_of b.jobs) b.events (Answer c.args.worker c.args.number c.args.verdict)) (sym c.self.view_is) c.requires in
    let t = at_verdict c.self.invariant.keeps c.args.worker c.args.number c.args.verdict ok in omega (arith, t)

pub index_mut-requires : goal.index_mut-requires
index_mut-requires g c = let ok = subst (λ b. Allowed (marks_of b.jobs) b.events (Answer c.args.worker c.args.number c.args.verdict)) (sym c.self.view_is) c.requires in
    let t = at_verdict c.self.invariant.keeps c.args.worker c.args.number c.args.verdict ok in search (rules, t)

pub push_reserved-requires : goal.push_reserved-requires
push_reserved-requires g c = let ok = subst (λ b. Allowed (marks_of b.jobs) b.events (Answer c.args.worker c.args.number c.args.verdict)) (sym c.self.view_is) c.requires in
    let t = answer_room c.self.invariant.keeps c.args.worker c.args.number c.args.verdict ok in let count = count_steps c.self.inside.end c.self.inside.history.items in omega (arith, t, count)

pub invariant_of-self : goal.invariant_of-self
invariant_of-self g c = let ok = subst (λ b. Allowed (marks_of b.jobs) b.events (Answer c.args.worker c.args.number c.args.verdict)) (sym c.self.view_is) c.requires in
    record {
      keeps = rw (c.push_reserved.ensures.items, events_snoc c.self.inside.end c.self.inside.history.items (Step.Answer c.args.worker c.args.number c.args.verdict), c.push_reserved.ensures.capacity, c.fault_after-self-inside.ensures) (answer_keeps c.self.invariant.keeps _ _ _ ok);
      own = c.self.invariant.own;
      wide = rw c.push_reserved.ensures.capacity c.self.invariant.wide;
    }

pub returns-clause-idle : goal.returns-clause-idle
returns-clause-idle g c = let ok = subst (λ b. Allowed (marks_of b.jobs) b.events (Answer c.args.worker c.args.number c.args.verdict)) (sym c.self.view_is) c.requires in
    rw (c.push_reserved.ensures.items, events_snoc c.self.inside.end c.self.inside.history.items (Step.Answer c.args.worker c.args.number c.args.verdict)) (idle_after _ _ c.self.invariant.keeps.lawful c.args.worker c.args.number c.args.verdict ok)
