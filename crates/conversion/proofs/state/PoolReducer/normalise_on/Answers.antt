-- The parts of a normal form, up to one that is to be opened.
use Rattle.std.proofs.Common.{◌≡◌, ◌≤◌, ◌<◌, ◌+◌, List, length, subst, sym as flip, arith, rules}
use Rattle.dk_model.specs.Trees.{Tree}
use Rattle.dk_model.specs.Signatures.{PlainSignature}
use Rattle.dk_model.specs.Units.{Units}
use Rattle.shared_term.specs.Pools.{Node, Extends}
use Rattle.signature_log.specs.Versions.{entries_of}
use Rattle.conversion.specs.declared.state.PoolReducer.{PoolReducer}
use Rattle.conversion.specs.declared.normal.Next.{Next}
use Rattle.conversion.specs.Waiting.{IsResumed, resumed, next_due, next_rank, value_due}
use Rattle.conversion.specs.Reducers.{Serves}
use Rattle.conversion.proofs.Waiting.{met_part}
use Rattle.conversion.proofs.Telling.{met_stops}
use Rattle.conversion.proofs.state.PoolReducer.normalise_on.Goals as goal

pub returns-in_err-value-in-Part-clause-gives : goal.returns-in_err-value-in-Part-clause-gives
returns-in_err-value-in-Part-clause-gives c =
    let S : PlainSignature = entries_of c.args.version.now in
    let due : Units Tree = resumed S c.args.self.now.pool c.args.frames.now.items (next_due S c.args.self.now.pool c.args.next c.args.left.now) in
    let ns : List Node = c.loop-next.self.pool in
    let way = subst (λ (k : Next). IsResumed S ns due (next_due S ns k c.loop-next.left) c.loop-next.left c.loop-next.frames.items) c.in-Part.is c.loop-next.invariant.way in
    let h = met_stops S ns c.meet_part.new.self.pool due c.in-Part.part c.loop-next.left c.in_err-value-in-Part.field-0.0 c.loop-next.frames.items c.loop-next.frames.items c.meet_part.new.left way c.in_err-value-in-Part.ensures.gives in
    search rules

pub loop-next-preserved-in-Some : goal.loop-next-preserved-in-Some
loop-next-preserved-in-Some c =
    let S : PlainSignature = entries_of c.args.version.now in
    let due : Units Tree = resumed S c.args.self.now.pool c.args.frames.now.items (next_due S c.args.self.now.pool c.args.next c.args.left.now) in
    let ns : List Node = c.loop-next.self.pool in
    let i = c.loop-next.invariant in
    let same : c.meet_part.new.self ≡ c.loop-next.self = c.in_ok-value-in-Part.ensures.same in
    let way = subst (λ (k : Next). IsResumed S ns due (next_due S ns k c.loop-next.left) c.loop-next.left c.loop-next.frames.items) c.in-Part.is i.way in
    let taken = subst (λ (k : Next). c.loop-next.left + next_rank k ≤ c.args.left.now + next_rank c.args.next) c.in-Part.is i.taken in
    let met = rw c.in-Some.is at c.in_ok-value-in-Part.ensures.gives in
    record {
      next = subst (λ (r : PoolReducer). c.in-Some.value.0 < length r.pool) (flip same) met.1;
      way = subst (λ (r : PoolReducer). IsResumed S r.pool due (value_due r.pool c.in-Some.value c.meet_part.new.left) c.meet_part.new.left c.loop-next.frames.items) (flip same)
          (met_part S ns c.loop-next.frames.items due c.in-Part.part c.in-Some.value c.loop-next.left c.meet_part.new.left met.0 (omega (arith, c.in_ok-value-in-Part.ensures.turned)) way);
      keeps = subst (λ (r : PoolReducer). Extends c.args.self.now.pool r.pool) (flip same) i.keeps;
      serves = subst (Serves S) (flip same) i.serves;
      less = omega (arith, c.in_ok-value-in-Part.ensures.turned, i.less);
      taken = omega (arith, c.in_ok-value-in-Part.ensures.turned, taken);
    }
