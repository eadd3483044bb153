use Rattle.std.proofs.Common.{arith}
use Rattle.board_core.proofs.Rooms.{halves, one_is_power}
use Rattle.board_core.proofs.room.is_power_of_two.Goals as goal

pub loop-rest-preserved : goal.loop-rest-preserved
loop-rest-preserved c = let i = c.loop-rest.invariant in let even = c.loop-rest-test.true in let some = i.some in let h = halves c.loop-rest.rest even some in
    record { some = omega (arith, even, some); same = ((λ p. h.0 (i.same.0 p)), (λ p. i.same.1 (h.1 p))) }

pub returns : goal.returns
returns c = let i = c.loop-rest.invariant in let o = one_is_power c.loop-rest.rest c.loop-rest-test.false in ((λ t. i.same.1 (o.0 t)), (λ p. o.1 (i.same.0 p)))
