use Rattle.std.proofs.Common.{rules, ◌≡◌, sym, subst, refl, ap, ◌∙◌, All, length, vec_len, arith}
use Rattle.std.proofs.lemmas.List.Elements.{All-nil}
use denote.Param.Send.{sendable}
use Rattle.std.proofs.Crossing.{crosses}
use Rattle.task_board.specs.Passes.{IsIdle, IsOver}
use Rattle.task_board.proofs.Alls.{all_put, all_take}
use Rattle.worker_crew.proofs.crew.fn.run_crew.scope.Goals as goal

pub returns-in_default : goal.returns-in_default
returns-in_default g c = let e = c.work_off-passes.ensures in let items = c.from_vec.ensures in (
  c.read-given.ensures,
  (let a = ap length items in let b = e.count in let d = ap length c.into_vec-passes.ensures in omega (arith, a, b, d)),
  subst (All (λ p. (p.seat.table_id ≡ c.captures.board.now) × IsIdle p.seat.me.0 × IsOver p.seat.me.0)) (sym items) e.over,
)

pub loop-stack-init : goal.loop-stack-init
loop-stack-init g c = let m = c.make_room.ensures in let r = c.in-Ok.ensures in let n = c.len.ensures in record {
  waiting = subst (All (λ p. (p.seat.table_id ≡ c.captures.board.now) × IsIdle p.seat.me.0)) (sym c.into_vec-passes.ensures) c.requires.7;
  refused = rw m.late (All-nil _);
  started = rw m.handles (All-nil _);
  count = let a = ap length m.late in let b = ap length m.handles in omega (arith, a, b);
  room = omega arith;
  late_room = let a = r.late_room in omega (arith, a, n);
  handles_room = let a = r.handles_room in omega (arith, a, n);
}

pub loop-stack-preserved-in-Ok-spawn_scoped_with : goal.loop-stack-preserved-in-Ok-spawn_scoped_with
loop-stack-preserved-in-Ok-spawn_scoped_with g c = let i = c.loop-stack.invariant in let e = c.push_reserved.ensures in let p = c.in-Some.ensures in
    let t = all_take (λ p. (p.seat.table_id ≡ c.captures.board.now) × IsIdle p.seat.me.0) _ _ _ p.items i.waiting in record {
      waiting = t.0;
      refused = i.refused;
      started = all_put (λ h. h.promise.given.value.seat.table_id ≡ c.captures.board.now) _ _ _ e.items i.started
          (ap (λ p. p.given.value.seat.table_id) c.in-Ok-spawn_scoped_with.ensures.ok ∙ (ap (λ p. p.seat.table_id) c.of-given.ensures ∙ t.1.0));
      count = let a = p.len in let b = e.len in let d = i.count in omega (arith, a, b, d);
      room = let a = p.capacity in let d = i.room in omega (arith, a, d);
      late_room = i.late_room;
      handles_room = let a = e.capacity in let d = i.handles_room in omega (arith, a, d);
    }

pub loop-stack-preserved : goal.loop-stack-preserved
loop-stack-preserved g c = let i = c.loop-stack.invariant in let e = c.push_reserved-in-Err.ensures in let p = c.in-Some.ensures in
    let t = all_take (λ p. (p.seat.table_id ≡ c.captures.board.now) × IsIdle p.seat.me.0) _ _ _ p.items i.waiting in record {
      waiting = t.0;
      refused = all_put (λ f. (f.1.now ≡ c.captures.board.now) × (f.2.seat.table_id ≡ c.captures.board.now) × IsIdle f.2.seat.me.0) _ _ _ e.items i.refused
          (subst (λ f. (f.1.now ≡ c.captures.board.now) × (f.2.seat.table_id ≡ c.captures.board.now) × IsIdle f.2.seat.me.0) (sym c.in-Err.ensures.err) (refl, t.1.0, t.1.1));
      started = i.started;
      count = let a = p.len in let b = e.len in let d = i.count in omega (arith, a, b, d);
      room = let a = p.capacity in let d = i.room in omega (arith, a, d);
      late_room = let a = e.capacity in let d = i.late_room in omega (arith, a, d);
      handles_room = i.handles_room;
    }

pub loop-worker-preserved : goal.loop-worker-preserved
loop-worker-preserved g c = let i = c.loop-worker.invariant in let e = c.push_reserved-in-Some-pop.ensures in let p = c.in-Some-pop.ensures in let r = c.spawn_scoped_with-in-Some-pop.ensures in
    let t = all_take (λ f. (f.1.now ≡ c.captures.board.now) × (f.2.seat.table_id ≡ c.captures.board.now) × IsIdle f.2.seat.me.0) _ _ _ p.items i.refused in record {
      refused = t.0;
      over = all_put (λ p. (p.seat.table_id ≡ c.captures.board.now) × IsIdle p.seat.me.0 × IsOver p.seat.me.0) _ _ _ e.items i.over (r.0 ∙ t.1.1, r.1, r.2);
      count = let a = p.len in let b = e.len in let d = i.count in omega (arith, a, b, d);
      room = let a = e.capacity in let d = i.room in omega (arith, a, d);
    }

pub loop-child-preserved : goal.loop-child-preserved
loop-child-preserved g c = let i = c.loop-child.invariant in let e = c.push_reserved-in-Some-pop-2.ensures in let p = c.in-Some-pop-2.ensures in let r = c.join.ensures in
    let t = all_take (λ h. h.promise.given.value.seat.table_id ≡ c.captures.board.now) _ _ _ p.items i.started in record {
      started = t.0;
      over = all_put (λ p. (p.seat.table_id ≡ c.captures.board.now) × IsIdle p.seat.me.0 × IsOver p.seat.me.0) _ _ _ e.items i.over (r.0 ∙ t.1, r.1, r.2);
      count = let a = p.len in let b = e.len in let d = i.count in omega (arith, a, b, d);
      room = let a = e.capacity in let d = i.room in omega (arith, a, d);
    }

pub returns : goal.returns
returns g c = let i = c.loop-child.invariant in let items = c.from_vec-2.ensures in (
  c.read-given-2.ensures,
  (let a = ap length items in let b = i.count in let d = ap length c.into_vec-passes.ensures in let w = c.loop-worker.invariant.count in let s = c.loop-stack.invariant.count in let o = c.work_off-passes-2.ensures.count in
      let z : vec_len c.loop-child.handles ≡ 0 = search rules in let y : vec_len c.loop-worker.late ≡ 0 = search rules in omega (arith, a, b, d, w, s, o, y, z)),
  subst (All (λ p. (p.seat.table_id ≡ c.captures.board.now) × IsIdle p.seat.me.0 × IsOver p.seat.me.0)) (sym items) i.over,
)

pub work_off-passes-requires-clause-waiting : goal.work_off-passes-requires-clause-waiting
work_off-passes-requires-clause-waiting g c κs within = subst (All (λ p. (p.seat.table_id ≡ c.captures.board.now) × IsIdle p.seat.me.0)) (sym c.into_vec-passes.ensures) c.requires.7

pub spawn_scoped_with-requires-clause-runs : goal.spawn_scoped_with-requires-clause-runs
spawn_scoped_with-requires-clause-runs g c κs h = let t = all_take (λ p. (p.seat.table_id ≡ c.captures.board.now) × IsIdle p.seat.me.0) _ _ _ c.in-Some.ensures.items c.loop-stack.invariant.waiting in (
  (t.1.0, t.1.1),
  (search (sendable, crosses) depth 40, search (sendable, crosses) depth 40, search (sendable, crosses) depth 40, search (sendable, crosses) depth 40, search (sendable, crosses) depth 40, search (sendable, crosses) depth 40, search (sendable, crosses) depth 40),
)

pub spawn_scoped_with-requires-in-Some-pop-after_bounds : goal.spawn_scoped_with-requires-in-Some-pop-after_bounds
spawn_scoped_with-requires-in-Some-pop-after_bounds g c κs h = let t = all_take (λ f. (f.1.now ≡ c.captures.board.now) × (f.2.seat.table_id ≡ c.captures.board.now) × IsIdle f.2.seat.me.0) _ _ _ c.in-Some-pop.ensures.items c.loop-worker.invariant.refused in
    (t.1.1 ∙ sym t.1.0, t.1.2)
