use Rattle.std.proofs.Common.{arith, ◌≡◌, ◌+◌, ap, subst, length, vec_len, vec_capacity}
use Rattle.std.specs.VecDeque.{deque_capacity}
use Rattle.board_core.specs.Kept.{IsWide}
use Rattle.board_core.specs.Rooms.{IsRoomBehind}
use Rattle.board_core.proofs.Rooms.{twice_wide}
use Rattle.board_core.proofs.room.make_place.Goals as goal

pub returns-in-Wider-clause-ok : goal.returns-in-Wider-clause-ok
returns-in-Wider-clause-ok g c = let n = vec_len c.args.jobs.now in let r = subst (IsRoomBehind n) c.in-Wider.is c.requires.room in let p = r.2 in
    let a = c.lengthen.ensures.capacity in let b = c.lengthen_queue.ensures.capacity in let v = c.lengthen-in-Wider.ensures.capacity in let h = c.lengthen-in-Wider-2.ensures.capacity in
    let pa = p.jobs in let pb = p.waiting in let pv = p.verdicts in let ph = p.history in let e = ap length c.lengthen.ensures.items in
    let count : n ≡ vec_len c.lengthen.new.list = omega (arith, e) in
    subst (λ k. IsWide (k + 1) (vec_capacity c.lengthen.new.list) (deque_capacity c.lengthen_queue.new.queue) (vec_capacity c.lengthen-in-Wider.new.list) (vec_capacity c.lengthen-in-Wider-2.new.list)) count
    (twice_wide n _ _ _ _ r.0 (omega (arith, a, pa)) (omega (arith, b, pb)) (omega (arith, v, pv)) (omega (arith, h, ph)))
