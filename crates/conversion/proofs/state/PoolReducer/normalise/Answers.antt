-- A normal form, with the weak head forms that it asks for.
use Rattle.std.proofs.Common.{◌≡◌, ◌∙◌, ◌-◌, List, Some, ap, subst, sym as flip, arith, rules}
use Rattle.dk_model.specs.Trees.{Tree}
use Rattle.dk_model.specs.Signatures.{PlainSignature}
use Rattle.dk_model.specs.Units.{Units}
use Rattle.dk_model.specs.Evaluation.{whnf_of, normal_of}
use Rattle.shared_term.specs.Pools.{Node, term}
use Rattle.signature_log.specs.Versions.{entries_of}
use Rattle.conversion.specs.declared.normal.Frame.{Frame}
use Rattle.conversion.specs.Waiting.{IsResumed}
use Rattle.conversion.proofs.Winding.{extends_none, extends_more}
use Rattle.conversion.proofs.Waiting.{normal_open, normal_begins, open_part_due, part_weak}
use Rattle.conversion.proofs.Telling.{normal_stops, part_stops, open_part_ends}
use Rattle.conversion.proofs.state.PoolReducer.normalise.Goals as goal

pub loop-frames-init : goal.loop-frames-init
loop-frames-init c = record {
  next = c.requires.whole;
  way = subst (λ (l : List Frame). IsResumed (entries_of c.args.version.now) c.args.self.now.pool (normal_of (entries_of c.args.version.now) c.args.left.now (term c.args.self.now.pool c.args.whole))
      (normal_of (entries_of c.args.version.now) c.args.left.now (term c.args.self.now.pool c.args.whole)) c.args.left.now l) (flip c.new-frames.ensures.items)
      (normal_begins (entries_of c.args.version.now) c.args.self.now.pool _ c.args.left.now);
  keeps = extends_none c.args.self.now.pool;
  serves = c.requires.serves;
  less = omega arith;
}

pub normalise_on-requires-clause-way : goal.normalise_on-requires-clause-way
normalise_on-requires-clause-way c = normal_open (entries_of c.args.version.now) c.loop-frames.self.pool c.loop-frames.frames.items _ _ c.loop-frames.left c.loop-frames.invariant.way

pub returns-in-Told-clause-gives : goal.returns-in-Told-clause-gives
returns-in-Told-clause-gives c = let g = rw c.in-Told.is at c.in_ok-value.ensures.gives in (c.loop-frames.invariant.way.comes ∙ g.0, g.1)

pub returns-in_err-value-clause-gives : goal.returns-in_err-value-clause-gives
returns-in_err-value-clause-gives c =
    let h = normal_stops (entries_of c.args.version.now) c.normalise_on.new.self.pool c.normalise_on.new.self.pool _ _ c.in_err-value.field-0.0 c.normalise_on.new.frames.items c.normalise_on.new.left
    c.loop-frames.invariant.way.comes c.in_err-value.ensures.gives in
    search rules

pub returns-in_err-value-in-Asks-clause-gives : goal.returns-in_err-value-in-Asks-clause-gives
returns-in_err-value-in-Asks-clause-gives c =
    let S : PlainSignature = entries_of c.args.version.now in
    let g = rw c.in-Asks.is at c.in_ok-value.ensures.gives in
    let o = open_part_due S c.normalise_on.new.self.pool c.normalise_on.new.frames.items (normal_of S c.args.left.now (term c.args.self.now.pool c.args.whole)) _ c.in-Asks.opened c.loop-frames.invariant.way.comes g.0 in
    let h = part_stops S _ _ c.evaluate.new.self.pool c.evaluate.new.self.pool c.in_err-value-in-Asks.field-0.0 c.evaluate.new.left
    (open_part_ends S c.normalise_on.new.self.pool _ c.normalise_on.new.frames.items c.in-Asks.opened c.normalise_on.new.left o g.1) c.in_err-value-in-Asks.ensures.gives in
    search rules

pub loop-frames-preserved : goal.loop-frames-preserved
loop-frames-preserved c =
    let S : PlainSignature = entries_of c.args.version.now in
    let p = c.in-Asks.opened in
    let ns : List Node = c.normalise_on.new.self.pool in
    let g = rw c.in-Asks.is at c.in_ok-value.ensures.gives in
    let due : Units Tree = normal_of S c.args.left.now (term c.args.self.now.pool c.args.whole) in
    let o = open_part_due S ns c.normalise_on.new.frames.items due _ p c.loop-frames.invariant.way.comes g.0 in
    let v = c.in_ok-value-in-Asks.ensures in
    let w : whnf_of S (p.before - 1) (term ns p.part) ≡ Some (term c.evaluate.new.self.pool c.in_ok-value-in-Asks.value, c.evaluate.new.left) =
    ap (λ n. whnf_of S n (term ns p.part)) (let e : p.before - 1 ≡ c.normalise_on.new.left = omega (arith, g.1) in e) ∙ v.gives.0 in
    let h = c.in_ok-next-in-Asks.ensures in
    record {
      next = h.0;
      way = h.1 S due c.evaluate.new.left (part_weak S ns c.evaluate.new.self.pool c.normalise_on.new.frames.items due p c.in_ok-value-in-Asks.value c.evaluate.new.left (omega (arith, v.spent, g.1)) v.keeps w o);
      keeps = extends_more _ _ _ (extends_more _ _ _ c.loop-frames.invariant.keeps c.in_ok-value.ensures.keeps) v.keeps;
      serves = v.serves;
      less = omega (arith, v.spent, c.in_ok-value.ensures.spent, c.loop-frames.invariant.less);
    }
