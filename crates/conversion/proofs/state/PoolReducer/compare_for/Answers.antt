-- A selection that asked whether two terms are alike.
use Rattle.std.proofs.Common.{rules, ◌≡◌, ◌∙◌, ◌-◌, ℕ, Bool, List, Some, length, ap, subst, refl, sym as flip, arith}
use Rattle.dk_model.specs.Signatures.{PlainSignature}
use Rattle.dk_model.specs.Units.{Units}
use Rattle.dk_model.specs.Evaluation.{whnf_of}
use Rattle.shared_term.specs.Pools.{Node, term}
use Rattle.signature_log.specs.Versions.{entries_of}
use Rattle.rule_match.specs.declared.matcher.Answer.{Answer}
use Rattle.rule_match.specs.Selecting.{Fits}
use Rattle.conversion.specs.Machine.{AreWithin}
use Rattle.conversion.specs.Pausing.{answered, rewritten_by}
use Rattle.conversion.specs.Pending.{pending, look_due}
use Rattle.conversion.proofs.Winding.{extends_none, extends_more}
use Rattle.conversion.proofs.Comparing.{look_open, open_pair_due, pair_opens, pair_second_ends}
use Rattle.conversion.proofs.Pausing.{waiter_grown, whether_grown}
use Rattle.conversion.proofs.Telling.{selection_told, waited_stops, recalled_stops, open_first_ends, pair_left}
use Rattle.conversion.proofs.state.PoolReducer.compare_for.Goals as goal

pub loop-work-init : goal.loop-work-init
loop-work-init c = record {
  look = c.requires.look;
  way = c.requires.open;
  stack = c.requires.stack;
  keeps = extends_none c.args.self.now.pool;
  serves = c.requires.serves;
  less = omega arith;
  rank = omega arith;
}

pub compare_on-requires-clause-open : goal.compare_on-requires-clause-open
compare_on-requires-clause-open c = look_open (entries_of c.args.version.now) c.loop-work.self.pool _ c.loop-work.look c.loop-work.left c.loop-work.work.items c.loop-work.invariant.way

pub returns-in-Told-clause-gives : goal.returns-in-Told-clause-gives
returns-in-Told-clause-gives c = λ due g.
    let S : PlainSignature = entries_of c.args.version.now in
    let ns : List Node = c.compare_on.new.self.pool in
    let x = extends_more _ _ _ c.loop-work.invariant.keeps c.in_ok-alike.ensures.keeps in
    let e = rw c.in-Told.is at c.in_ok-alike.ensures.gives in
    selection_told S ns c.args.waiter c.told.result c.goes.result c.goes.new.stack.items due c.compare_on.new.left c.goes.ensures.goes (ap (λ v. v.items) c.goes.ensures.stack)
    (g.goes ns c.in-Told.alike c.compare_on.new.left x (c.loop-work.invariant.way.comes ∙ e)
    ∙ ap (λ (a : Answer). rewritten_by S ns (answered c.args.waiter a) c.args.waiter.stack.items c.compare_on.new.left) (flip c.told.ensures))
    (waiter_grown S c.args.self.now.pool ns c.args.waiter x c.requires.waiter)
    (subst (λ (a : Answer). Fits (length ns) c.args.waiter.matcher a) (flip c.told.ensures) (c.requires.fits (length ns) c.in-Told.alike))

pub returns-in_err-alike-clause-gives : goal.returns-in_err-alike-clause-gives
returns-in_err-alike-clause-gives c = λ due g.
    let h = waited_stops (entries_of c.args.version.now) _ due c.compare_on.new.self.pool c.in_err-alike.field-0.0 c.compare_on.new.work.items c.loop-work.stack.items c.compare_on.new.left
    (λ e. g.ends (c.loop-work.invariant.way.comes ∙ e)) c.in_err-alike.ensures.gives in
    search rules

-- a pair asks for its first weak head form

pub returns-in_err-recalled-in-Asks-clause-gives : goal.returns-in_err-recalled-in-Asks-clause-gives
returns-in_err-recalled-in-Asks-clause-gives c = λ due g.
    let S : PlainSignature = entries_of c.args.version.now in
    let ns : List Node = c.compare_on.new.self.pool in
    let q = rw c.in-Asks.is at c.in_ok-alike.ensures.gives in
    let o = open_pair_due S ns (look_due S c.args.self.now.pool c.args.look c.args.left.now c.args.work.items) _ c.compare_on.new.work.items c.in-Asks.pair c.loop-work.invariant.way.comes q.0 in
    let h = recalled_stops S _ due ns c.compare_on.new.left c.in_err-recalled-in-Asks.field-0.0 c.loop-work.stack.items c.recalled.new.left
    (λ e. g.ends (open_first_ends S ns _ c.compare_on.new.work.items c.in-Asks.pair c.compare_on.new.left o q.1 e)) c.in_err-recalled-in-Asks.ensures.gives in
    search rules

pub returns-in-None-clause-gives : goal.returns-in-None-clause-gives
returns-in-None-clause-gives c = λ due g.
    let S : PlainSignature = entries_of c.args.version.now in
    let ns : List Node = c.compare_on.new.self.pool in
    let x = extends_more _ _ _ c.loop-work.invariant.keeps c.in_ok-alike.ensures.keeps in
    let q = rw c.in-Asks.is at c.in_ok-alike.ensures.gives in
    let r : c.recalled.new.left ≡ c.compare_on.new.left = rw c.in-None.is at c.in_ok-recalled-in-Asks.ensures.gives in
    let o = open_pair_due S ns (look_due S c.args.self.now.pool c.args.look c.args.left.now c.args.work.items) _ c.compare_on.new.work.items c.in-Asks.pair c.loop-work.invariant.way.comes q.0 in (
      record {
        alike = _;
        open_pair = o;
        awaits = (refl, omega (arith, q.1, r));
        further = whether_grown S c.args.self.now.pool ns x c.args.waiter _ due g;
      },
      refl,
      c.loop-work.invariant.stack,
      record { waiter = waiter_grown S c.args.self.now.pool ns c.args.waiter x c.requires.waiter; fits = c.requires.fits; asked = o.first },
    )

pub returns-in-None-clause-stack : goal.returns-in-None-clause-stack
returns-in-None-clause-stack c = subst (AreWithin (length c.compare_on.new.self.pool)) (flip c.loop-work.invariant.stack) tt

-- the same for its second one

pub returns-in_err-recalled-in-Some-clause-gives : goal.returns-in_err-recalled-in-Some-clause-gives
returns-in_err-recalled-in-Some-clause-gives c = λ due g.
    let S : PlainSignature = entries_of c.args.version.now in
    let ns : List Node = c.compare_on.new.self.pool in
    let p = c.in-Asks.pair in
    let q = rw c.in-Asks.is at c.in_ok-alike.ensures.gives in
    let o = open_pair_due S ns (look_due S c.args.self.now.pool c.args.look c.args.left.now c.args.work.items) _ c.compare_on.new.work.items p c.loop-work.invariant.way.comes q.0 in
    let a = rw c.in-Some.is at c.in_ok-recalled-in-Asks.ensures.gives in
    let w : whnf_of S (p.before - 1) (term ns p.first) ≡ Some (term ns c.in-Some.first, c.recalled.new.left) = ap (λ n. whnf_of S n (term ns p.first)) (pair_left S p c.compare_on.new.left q.1) ∙ a.0 in
    let h = recalled_stops S _ due ns c.recalled.new.left c.in_err-recalled-in-Some.field-0.0 c.loop-work.stack.items c.recalled-in-Some.new.left
    (λ e. g.ends (o.way.comes ∙ pair_second_ends S ns ns p.before c.recalled.new.left p.first p.second c.in-Some.first (pending ns c.compare_on.new.work.items) o.some o.differ o.second (extends_none ns) w e))
    c.in_err-recalled-in-Some.ensures.gives in
    search rules

pub returns-in-None-2-clause-gives : goal.returns-in-None-2-clause-gives
returns-in-None-2-clause-gives c = λ due g.
    let S : PlainSignature = entries_of c.args.version.now in
    let ns : List Node = c.compare_on.new.self.pool in
    let p = c.in-Asks.pair in
    let x = extends_more _ _ _ c.loop-work.invariant.keeps c.in_ok-alike.ensures.keeps in
    let q = rw c.in-Asks.is at c.in_ok-alike.ensures.gives in
    let o = open_pair_due S ns (look_due S c.args.self.now.pool c.args.look c.args.left.now c.args.work.items) _ c.compare_on.new.work.items p c.loop-work.invariant.way.comes q.0 in
    let a = rw c.in-Some.is at c.in_ok-recalled-in-Asks.ensures.gives in
    let r : c.recalled-in-Some.new.left ≡ c.recalled.new.left = rw c.in-None-2.is at c.in_ok-recalled-in-Some.ensures.gives in
    let w : whnf_of S (p.before - 1) (term ns p.first) ≡ Some (term ns c.in-Some.first, c.recalled.new.left) = ap (λ n. whnf_of S n (term ns p.first)) (pair_left S p c.compare_on.new.left q.1) ∙ a.0 in (
      record {
        alike = _;
        open_pair = o;
        awaits = (refl, a.1, w ∙ ap (λ (n : ℕ). Some (term ns c.in-Some.first, n)) (flip r));
        further = whether_grown S c.args.self.now.pool ns x c.args.waiter _ due g;
      },
      refl,
      c.loop-work.invariant.stack,
      record { waiter = waiter_grown S c.args.self.now.pool ns c.args.waiter x c.requires.waiter; fits = c.requires.fits; asked = o.second },
    )

pub returns-in-None-2-clause-stack : goal.returns-in-None-2-clause-stack
returns-in-None-2-clause-stack c = subst (AreWithin (length c.compare_on.new.self.pool)) (flip c.loop-work.invariant.stack) tt

pub loop-work-preserved : goal.loop-work-preserved
loop-work-preserved c =
    let S : PlainSignature = entries_of c.args.version.now in
    let p = c.in-Asks.pair in
    let ns : List Node = c.compare_on.new.self.pool in
    let q = rw c.in-Asks.is at c.in_ok-alike.ensures.gives in
    let due : Units Bool = look_due S c.args.self.now.pool c.args.look c.args.left.now c.args.work.items in
    let o = open_pair_due S ns due _ c.compare_on.new.work.items p c.loop-work.invariant.way.comes q.0 in
    let a = rw c.in-Some.is at c.in_ok-recalled-in-Asks.ensures.gives in
    let b = rw c.in-Some-2.is at c.in_ok-recalled-in-Some.ensures.gives in
    let w : whnf_of S (p.before - 1) (term ns p.first) ≡ Some (term ns c.in-Some.first, c.recalled.new.left) = ap (λ n. whnf_of S n (term ns p.first)) (pair_left S p c.compare_on.new.left q.1) ∙ a.0 in
    let way = pair_opens S ns ns ns due c.recalled.new.left c.recalled-in-Some.new.left p c.in-Some.first c.in-Some-2.second c.compare_on.new.work.items o
    (omega (arith, a.2, b.2, q.1)) (extends_none ns) (extends_none ns) a.1 w b.0 in
    record {
      look = tt;
      way = c.in_ok-alike-in-Some-2.ensures S due c.recalled-in-Some.new.left way;
      stack = c.loop-work.invariant.stack;
      keeps = extends_more _ _ _ c.loop-work.invariant.keeps c.in_ok-alike.ensures.keeps;
      serves = c.in_ok-alike.ensures.serves;
      less = omega (arith, a.2, b.2, c.in_ok-alike.ensures.spent, c.loop-work.invariant.less);
      rank = omega (arith, a.2, b.2, c.in_ok-alike.ensures.spent, c.loop-work.invariant.less);
    }
