use Rattle.std.proofs.Common.{◌≡◌, ◌+◌, ◌-◌, ◌++◌, ◌∷◌, [], sym, refl, ap, ◌∙◌, arith}
use Rattle.task_board.specs.Passes.{IsIdle, IsOver}
use Rattle.worker_crew.proofs.Turning.{begun, ended, first_waits, turned}
use Rattle.worker_crew.proofs.crew.work_off.Goals as goal

pub loop-turn-init : goal.loop-turn-init
loop-turn-init g c = let n = c.len-count.ensures in
    let t = begun (λ p. (p.seat.table_id ≡ c.args.board.now) × IsIdle p.seat.me.0) (λ p. (p.seat.table_id ≡ c.args.board.now) × IsIdle p.seat.me.0 × IsOver p.seat.me.0) c.args.passes.items (c.len-count.result - 0) (omega (arith, n)) c.requires.waiting in
    record { count = sym n; room = refl; waiting = t.0; over = t.1 }

pub work_until_rung-requires-clause-own : goal.work_until_rung-requires-clause-own
work_until_rung-requires-clause-own g c κs within = let i = c.loop-turn.invariant in let n = i.count in let t = c.loop-turn-test.true in
    (first_waits (λ p. (p.seat.table_id ≡ c.args.board.now) × IsIdle p.seat.me.0) c.loop-turn.passes.items c.remove-pass.result (c.len-count.result - (c.loop-turn.turn + 1)) (c.len-count.result - c.loop-turn.turn) (omega (arith, t)) (omega (arith, n)) c.remove-pass.ensures.value i.waiting).0

pub work_until_rung-requires-clause-idle : goal.work_until_rung-requires-clause-idle
work_until_rung-requires-clause-idle g c κs within = let i = c.loop-turn.invariant in let n = i.count in let t = c.loop-turn-test.true in
    (first_waits (λ p. (p.seat.table_id ≡ c.args.board.now) × IsIdle p.seat.me.0) c.loop-turn.passes.items c.remove-pass.result (c.len-count.result - (c.loop-turn.turn + 1)) (c.len-count.result - c.loop-turn.turn) (omega (arith, t)) (omega (arith, n)) c.remove-pass.ensures.value i.waiting).1

pub loop-turn-preserved : goal.loop-turn-preserved
loop-turn-preserved g c = let i = c.loop-turn.invariant in let n = i.count in let t = c.loop-turn-test.true in let e = c.push_reserved.ensures in let r = c.remove-pass.ensures in let w = c.work_until_rung.ensures in
    let s = turned (λ p. (p.seat.table_id ≡ c.args.board.now) × IsIdle p.seat.me.0) (λ p. (p.seat.table_id ≡ c.args.board.now) × IsIdle p.seat.me.0 × IsOver p.seat.me.0) c.loop-turn.passes.items c.push_reserved.new.self.items c.remove-pass.result c.work_until_rung.result
    (c.len-count.result - (c.loop-turn.turn + 1)) (c.len-count.result - c.loop-turn.turn) (omega (arith, t)) (omega (arith, n)) r.value (e.items ∙ ap (λ l. l ++ c.work_until_rung.result ∷ []) r.items) i.waiting i.over (w.own, w.idle, w.over) in record {
      count = let a = e.len in let b = r.len in omega (arith, a, b, n);
      room = let a = e.capacity in let b = r.capacity in let d = i.room in omega (arith, a, b, d);
      waiting = s.0;
      over = s.1;
    }

pub returns-clause-over : goal.returns-clause-over
returns-clause-over g c = let f = c.loop-turn-test.false in ended (λ p. (p.seat.table_id ≡ c.args.board.now) × IsIdle p.seat.me.0 × IsOver p.seat.me.0) c.loop-turn.passes.items (c.len-count.result - c.loop-turn.turn) (omega (arith, f)) c.loop-turn.invariant.over
