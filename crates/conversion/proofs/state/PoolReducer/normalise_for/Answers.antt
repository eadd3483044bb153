-- A selection that asked for a normal form.
use Rattle.std.proofs.Common.{rules, ◌≡◌, ◌≤◌, ◌∙◌, ◌-◌, List, Some, length, ap, subst, refl, sym as flip, arith}
use Rattle.dk_model.specs.Trees.{Tree}
use Rattle.dk_model.specs.Signatures.{PlainSignature}
use Rattle.dk_model.specs.Units.{Units}
use Rattle.dk_model.specs.Evaluation.{whnf_of}
use Rattle.shared_term.specs.Pools.{Node, term}
use Rattle.signature_log.specs.Versions.{entries_of}
use Rattle.rule_match.specs.declared.matcher.Answer.TheVariants.{Normal}
use Rattle.conversion.specs.Machine.{AreWithin}
use Rattle.conversion.specs.Waiting.{resumed, next_due, next_rank}
use Rattle.conversion.specs.declared.normal.Next.{Next}
use Rattle.conversion.specs.declared.normal.Next.TheVariants.{Part, Head}
use Rattle.conversion.proofs.Winding.{extends_none, extends_more}
use Rattle.conversion.proofs.Waiting.{normal_open, open_part_due, part_weak}
use Rattle.conversion.proofs.Pausing.{waiter_grown, with_grown}
use Rattle.conversion.proofs.Telling.{selection_told, normal_waited_stops, recalled_stops, open_part_ends}
use Rattle.conversion.proofs.state.PoolReducer.normalise_for.Goals as goal

at_most_one : (n : Next) → next_rank n ≤ 1
at_most_one (Part t) = omega arith
at_most_one (Head h) = omega arith

pub loop-frames-init : goal.loop-frames-init
loop-frames-init c = record {
  next = c.requires.next;
  way = c.requires.way;
  stack = c.requires.stack;
  keeps = extends_none c.args.self.now.pool;
  serves = c.requires.serves;
  less = omega arith;
  rank = omega arith;
}

pub normalise_on-requires-clause-way : goal.normalise_on-requires-clause-way
normalise_on-requires-clause-way c = normal_open (entries_of c.args.version.now) c.loop-frames.self.pool c.loop-frames.frames.items _ _ c.loop-frames.left c.loop-frames.invariant.way

pub returns-in-Told-clause-gives : goal.returns-in-Told-clause-gives
returns-in-Told-clause-gives c = λ due g.
    let S : PlainSignature = entries_of c.args.version.now in
    let ns : List Node = c.normalise_on.new.self.pool in
    let x = extends_more _ _ _ c.loop-frames.invariant.keeps c.in_ok-normal.ensures.keeps in
    let e = rw c.in-Told.is at c.in_ok-normal.ensures.gives in
    selection_told S ns c.args.waiter (Normal c.in-Told.normal) c.goes.result c.goes.new.stack.items due c.normalise_on.new.left c.goes.ensures.goes (ap (λ v. v.items) c.goes.ensures.stack)
    (g.goes ns c.in-Told.normal c.normalise_on.new.left x (c.loop-frames.invariant.way.comes ∙ e.0))
    (waiter_grown S c.args.self.now.pool ns c.args.waiter x c.requires.waiter) (c.requires.fits (length ns) c.in-Told.normal e.1)

pub returns-in_err-normal-clause-gives : goal.returns-in_err-normal-clause-gives
returns-in_err-normal-clause-gives c = λ due g.
    let h = normal_waited_stops (entries_of c.args.version.now) _ due c.normalise_on.new.self.pool c.in_err-normal.field-0.0 c.normalise_on.new.frames.items c.loop-frames.stack.items c.normalise_on.new.left
    (λ e. g.ends (c.loop-frames.invariant.way.comes ∙ e)) c.in_err-normal.ensures.gives in
    search rules

-- a part asks for its weak head form

pub returns-in_err-recalled-in-Asks-clause-gives : goal.returns-in_err-recalled-in-Asks-clause-gives
returns-in_err-recalled-in-Asks-clause-gives c = λ due g.
    let S : PlainSignature = entries_of c.args.version.now in
    let ns : List Node = c.normalise_on.new.self.pool in
    let q = rw c.in-Asks.is at c.in_ok-normal.ensures.gives in
    let whole : Units Tree = resumed S c.args.self.now.pool c.args.frames.items (next_due S c.args.self.now.pool c.args.next c.args.left.now) in
    let o = open_part_due S ns c.normalise_on.new.frames.items whole _ c.in-Asks.opened c.loop-frames.invariant.way.comes q.0 in
    let h = recalled_stops S _ due ns c.normalise_on.new.left c.in_err-recalled-in-Asks.field-0.0 c.loop-frames.stack.items c.recalled.new.left
    (λ e. g.ends (open_part_ends S ns _ c.normalise_on.new.frames.items c.in-Asks.opened c.normalise_on.new.left o q.1 e)) c.in_err-recalled-in-Asks.ensures.gives in
    search rules

pub returns-in-None-clause-gives : goal.returns-in-None-clause-gives
returns-in-None-clause-gives c = λ due g.
    let S : PlainSignature = entries_of c.args.version.now in
    let ns : List Node = c.normalise_on.new.self.pool in
    let x = extends_more _ _ _ c.loop-frames.invariant.keeps c.in_ok-normal.ensures.keeps in
    let q = rw c.in-Asks.is at c.in_ok-normal.ensures.gives in
    let r : c.recalled.new.left ≡ c.normalise_on.new.left = rw c.in-None.is at c.in_ok-recalled-in-Asks.ensures.gives in
    let whole : Units Tree = resumed S c.args.self.now.pool c.args.frames.items (next_due S c.args.self.now.pool c.args.next c.args.left.now) in
    let o = open_part_due S ns c.normalise_on.new.frames.items whole _ c.in-Asks.opened c.loop-frames.invariant.way.comes q.0 in (
      record {
        normal = _;
        open_part = o;
        asked = refl;
        start = omega (arith, q.1, r);
        further = with_grown S c.args.self.now.pool ns x c.args.waiter (λ v. Normal v) _ due g;
      },
      refl,
      c.loop-frames.invariant.stack,
      record { waiter = waiter_grown S c.args.self.now.pool ns c.args.waiter x c.requires.waiter; fits = c.requires.fits; asked = o.part },
    )

pub returns-in-None-clause-stack : goal.returns-in-None-clause-stack
returns-in-None-clause-stack c = subst (AreWithin (length c.normalise_on.new.self.pool)) (flip c.loop-frames.invariant.stack) tt

pub loop-frames-preserved : goal.loop-frames-preserved
loop-frames-preserved c =
    let S : PlainSignature = entries_of c.args.version.now in
    let p = c.in-Asks.opened in
    let ns : List Node = c.normalise_on.new.self.pool in
    let q = rw c.in-Asks.is at c.in_ok-normal.ensures.gives in
    let whole : Units Tree = resumed S c.args.self.now.pool c.args.frames.items (next_due S c.args.self.now.pool c.args.next c.args.left.now) in
    let o = open_part_due S ns c.normalise_on.new.frames.items whole _ p c.loop-frames.invariant.way.comes q.0 in
    let v = rw c.in-Some.is at c.in_ok-recalled-in-Asks.ensures.gives in
    let w : whnf_of S (p.before - 1) (term ns p.part) ≡ Some (term ns c.in-Some.value, c.recalled.new.left) =
    ap (λ n. whnf_of S n (term ns p.part)) (let e : p.before - 1 ≡ c.normalise_on.new.left = omega (arith, q.1) in e) ∙ v.0 in
    let h = c.in_ok-next-in-Some.ensures in
    record {
      next = h.0;
      way = h.1 S whole c.recalled.new.left (part_weak S ns ns c.normalise_on.new.frames.items whole p c.in-Some.value c.recalled.new.left (omega (arith, v.2, q.1)) (extends_none ns) w o);
      stack = c.loop-frames.invariant.stack;
      keeps = extends_more _ _ _ c.loop-frames.invariant.keeps c.in_ok-normal.ensures.keeps;
      serves = c.in_ok-normal.ensures.serves;
      less = omega (arith, v.2, c.in_ok-normal.ensures.spent, c.loop-frames.invariant.less);
      rank = (let r : next_rank c.in_ok-next-in-Some.next ≤ 1 = at_most_one c.in_ok-next-in-Some.next in omega (arith, r, v.2, c.in_ok-normal.ensures.spent, c.loop-frames.invariant.less));
    }
