use Rattle.std.proofs.Common.{arith, ap, sym, subst}
use Rattle.board_core.specs.Machine.{Allowed, marks_of}
use Rattle.board_core.specs.declared.event.Event.{Event}
use Rattle.board_core.specs.Shown.{Shown, added}
use Rattle.board_core.proofs.Keeping.{seal_keeps, seal_room}
use Rattle.board_core.proofs.Stepping.{count_steps, sealed_events}
use Rattle.board_core.proofs.book.Book.seal.Goals as goal

pub push_reserved-requires : goal.push_reserved-requires
push_reserved-requires g c = let ok = subst (λ b. Allowed (marks_of b.jobs) b.events (Event.Seal c.args.end)) (sym c.self.view_is) c.requires in
    let t = seal_room c.self.invariant.keeps ok.0 in let count = count_steps c.self.inside.end c.self.inside.history.items in omega (arith, t, count)

pub invariant_of-self : goal.invariant_of-self
invariant_of-self g c = let ok = subst (λ b. Allowed (marks_of b.jobs) b.events (Event.Seal c.args.end)) (sym c.self.view_is) c.requires in
    record {
      keeps = rw (c.push_reserved.ensures.items, sealed_events c.self.inside.end c.args.end c.self.inside.history.items ok.0, c.push_reserved.ensures.capacity) (seal_keeps c.self.invariant.keeps c.args.end ok);
      own = c.self.invariant.own;
      wide = rw c.push_reserved.ensures.capacity c.self.invariant.wide;
    }

pub returns : goal.returns
returns g c = let ok = subst (λ b. Allowed (marks_of b.jobs) b.events (Event.Seal c.args.end)) (sym c.self.view_is) c.requires in
    rw (c.push_reserved.ensures.items, sealed_events c.self.inside.end c.args.end c.self.inside.history.items ok.0) (ap (λ (b : Shown _). added b (Event.Seal c.args.end)) c.self.view_is)
