use Rattle.std.proofs.Common.{refl, sym, subst}
use Rattle.std.specs.Arc.{arc_value}
use Rattle.board_core.specs.Machine.{HoldsNone}
use Rattle.board_core.specs.Kept.{jobs_in, waiters_in}
use Rattle.board_core.proofs.Lawful.{holds_after}
use Rattle.board_core.proofs.Stepping.{events_snoc}
use Rattle.board_core.specs.declared.history.Step.{Step}
use Rattle.board_core.proofs.Holding.{idle_holds, idles, claim_holds}
use Rattle.board_core.proofs.book.Book.claim.Goals as goal

pub returns-in_default : goal.returns-in_default
returns-in_default g c = let t = c.in_default.ensures.taken in let none = subst (λ b. HoldsNone c.args.worker b.events) (sym c.self.view_is) c.requires in record {
  reply = rw (c.idle.ensures, c.is_some.ensures, ← c.self.view_is) (idles _ c.args.worker c.self.invariant.keeps t.1);
  holds = rw c.idle.ensures (idle_holds _ c.args.worker c.is_some.result c.self.inside.fault _ none);
}

pub invariant_of-self : goal.invariant_of-self
invariant_of-self g c = let t = c.in_default.ensures.taken in record {
  keeps = rw t.0 c.self.invariant.keeps;
  own = rw t.0 c.self.invariant.own;
  wide = rw c.in_default.ensures.capacity c.self.invariant.wide;
}

pub invariant_of-self-2 : goal.invariant_of-self-2
invariant_of-self-2 g c = let t = c.in-Some.ensures.taken in let none = subst (λ b. HoldsNone c.args.worker b.events) (sym c.self.view_is) c.requires in
    let r = claim_holds (jobs_in c.self.inside.jobs.items) (waiters_in c.self.inside.waiting.items) c.self.invariant.keeps c.self.invariant.own c.args.worker c.in-Some.task.number (arc_value c.in-Some.task.job) (waiters_in c.take_below.new.waiting.items) t.0 t.1 none in
    record { keeps = rw (c.push_reserved.ensures.items, events_snoc c.self.inside.end c.self.inside.history.items (Step.Claim c.args.worker c.in-Some.task.number), c.push_reserved.ensures.capacity) r.3; own = r.4; wide = rw (c.push_reserved.ensures.capacity, c.in-Some.ensures.capacity) c.self.invariant.wide }

pub returns : goal.returns
returns g c = let t = c.in-Some.ensures.taken in let none = subst (λ b. HoldsNone c.args.worker b.events) (sym c.self.view_is) c.requires in
    let r = claim_holds (jobs_in c.self.inside.jobs.items) (waiters_in c.self.inside.waiting.items) c.self.invariant.keeps c.self.invariant.own c.args.worker c.in-Some.task.number (arc_value c.in-Some.task.job) (waiters_in c.take_below.new.waiting.items) t.0 t.1 none in
    record {
      reply = rw (c.push_reserved.ensures.items, events_snoc c.self.inside.end c.self.inside.history.items (Step.Claim c.args.worker c.in-Some.task.number), ← c.self.view_is) (r.1, r.2, refl);
      holds = rw (c.push_reserved.ensures.items, events_snoc c.self.inside.end c.self.inside.history.items (Step.Claim c.args.worker c.in-Some.task.number)) (holds_after _ _ c.self.invariant.keeps.lawful _ _ r.1);
    }
