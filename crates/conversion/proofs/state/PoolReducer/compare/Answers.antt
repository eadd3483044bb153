-- A comparison, with the weak head forms that it asks for.
use Rattle.std.proofs.Common.{◌≡◌, ◌∙◌, ◌-◌, List, Bool, Some, ap, subst, sym as flip, arith, rules}
use Rattle.dk_model.specs.Signatures.{PlainSignature}
use Rattle.dk_model.specs.Units.{Units}
use Rattle.dk_model.specs.Evaluation.{whnf_of, comparison_of}
use Rattle.shared_term.specs.Pools.{Node, term}
use Rattle.signature_log.specs.Versions.{entries_of}
use Rattle.conversion.specs.declared.compare.Step.{Step}
use Rattle.conversion.specs.declared.compare.Look.TheVariants.{At}
use Rattle.conversion.specs.Pending.{pending, IsUnderWay, look_made}
use Rattle.conversion.proofs.Winding.{extends_none, extends_more}
use Rattle.conversion.proofs.Comparing.{look_open, look_begins, open_pair_due, pair_opens, pair_second_ends}
use Rattle.conversion.proofs.Telling.{compared_stops, weak_stops, open_first_ends, pair_left}
use Rattle.conversion.proofs.state.PoolReducer.compare.Goals as goal

pub loop-work-init : goal.loop-work-init
loop-work-init c = record {
  look = (c.requires.t, c.requires.u);
  way = subst (λ (l : List Step). IsUnderWay (entries_of c.args.version.now) c.args.self.now.pool (comparison_of (entries_of c.args.version.now) c.args.left.now (term c.args.self.now.pool c.args.t) (term c.args.self.now.pool c.args.u))
      (look_made (entries_of c.args.version.now) c.args.self.now.pool (At c.args.t c.args.u) c.args.left.now) c.args.left.now l) (flip c.new-work.ensures.items)
      (look_begins (entries_of c.args.version.now) c.args.self.now.pool c.args.left.now c.args.t c.args.u);
  keeps = extends_none c.args.self.now.pool;
  serves = c.requires.serves;
  less = omega arith;
}

pub compare_on-requires-clause-open : goal.compare_on-requires-clause-open
compare_on-requires-clause-open c = look_open (entries_of c.args.version.now) c.loop-work.self.pool _ c.loop-work.look c.loop-work.left c.loop-work.work.items c.loop-work.invariant.way

pub returns-in-Told-clause-gives : goal.returns-in-Told-clause-gives
returns-in-Told-clause-gives c = c.loop-work.invariant.way.comes ∙ (rw c.in-Told.is at c.in_ok-alike.ensures.gives)

pub returns-in_err-alike-clause-gives : goal.returns-in_err-alike-clause-gives
returns-in_err-alike-clause-gives c =
    let h = compared_stops (entries_of c.args.version.now) c.compare_on.new.self.pool _ _ c.in_err-alike.field-0.0 c.compare_on.new.work.items c.compare_on.new.left c.loop-work.invariant.way.comes c.in_err-alike.ensures.gives in
    search rules

pub returns-in_err-x-in-Asks-clause-gives : goal.returns-in_err-x-in-Asks-clause-gives
returns-in_err-x-in-Asks-clause-gives c =
    let S : PlainSignature = entries_of c.args.version.now in
    let g = rw c.in-Asks.is at c.in_ok-alike.ensures.gives in
    let o = open_pair_due S c.compare_on.new.self.pool (comparison_of S c.args.left.now (term c.args.self.now.pool c.args.t) (term c.args.self.now.pool c.args.u)) _ c.compare_on.new.work.items c.in-Asks.pair c.loop-work.invariant.way.comes g.0 in
    let h = weak_stops S _ _ c.evaluate.new.self.pool c.in_err-x-in-Asks.field-0.0 c.evaluate.new.left (open_first_ends S c.compare_on.new.self.pool _ c.compare_on.new.work.items c.in-Asks.pair c.compare_on.new.left o g.1) c.in_err-x-in-Asks.ensures.gives in
    search rules

pub returns-in_err-y-in-Asks-clause-gives : goal.returns-in_err-y-in-Asks-clause-gives
returns-in_err-y-in-Asks-clause-gives c =
    let S : PlainSignature = entries_of c.args.version.now in
    let p = c.in-Asks.pair in
    let ns : List Node = c.compare_on.new.self.pool in
    let g = rw c.in-Asks.is at c.in_ok-alike.ensures.gives in
    let o = open_pair_due S ns (comparison_of S c.args.left.now (term c.args.self.now.pool c.args.t) (term c.args.self.now.pool c.args.u)) _ c.compare_on.new.work.items p c.loop-work.invariant.way.comes g.0 in
    let w : whnf_of S (p.before - 1) (term ns p.first) ≡ Some (term c.evaluate.new.self.pool c.in_ok-x-in-Asks.x, c.evaluate.new.left) =
    ap (λ n. whnf_of S n (term ns p.first)) (pair_left S p c.compare_on.new.left g.1) ∙ c.in_ok-x-in-Asks.ensures.gives.0 in
    let h = weak_stops S _ _ c.evaluate-in-Asks.new.self.pool c.in_err-y-in-Asks.field-0.0 c.evaluate-in-Asks.new.left
    (λ e. o.way.comes ∙ pair_second_ends S ns c.evaluate.new.self.pool p.before c.evaluate.new.left p.first p.second c.in_ok-x-in-Asks.x (pending ns c.compare_on.new.work.items) o.some o.differ o.second c.in_ok-x-in-Asks.ensures.keeps w e)
    c.in_err-y-in-Asks.ensures.gives in
    search rules

pub loop-work-preserved : goal.loop-work-preserved
loop-work-preserved c =
    let S : PlainSignature = entries_of c.args.version.now in
    let p = c.in-Asks.pair in
    let ns : List Node = c.compare_on.new.self.pool in
    let g = rw c.in-Asks.is at c.in_ok-alike.ensures.gives in
    let due : Units Bool = comparison_of S c.args.left.now (term c.args.self.now.pool c.args.t) (term c.args.self.now.pool c.args.u) in
    let o = open_pair_due S ns due _ c.compare_on.new.work.items p c.loop-work.invariant.way.comes g.0 in
    let x = c.in_ok-x-in-Asks.ensures in
    let y = c.in_ok-y-in-Asks.ensures in
    let w : whnf_of S (p.before - 1) (term ns p.first) ≡ Some (term c.evaluate.new.self.pool c.in_ok-x-in-Asks.x, c.evaluate.new.left) = ap (λ n. whnf_of S n (term ns p.first)) (pair_left S p c.compare_on.new.left g.1) ∙ x.gives.0 in
    let way = pair_opens S ns c.evaluate.new.self.pool c.evaluate-in-Asks.new.self.pool due c.evaluate.new.left c.evaluate-in-Asks.new.left p c.in_ok-x-in-Asks.x c.in_ok-y-in-Asks.y c.compare_on.new.work.items o
    (omega (arith, x.spent, y.spent, g.1)) x.keeps y.keeps x.gives.1 w y.gives.0 in
    record {
      look = tt;
      way = c.in_ok-alike-in-Asks.ensures S due c.evaluate-in-Asks.new.left way;
      keeps = extends_more _ _ _ (extends_more _ _ _ (extends_more _ _ _ c.loop-work.invariant.keeps c.in_ok-alike.ensures.keeps) x.keeps) y.keeps;
      serves = y.serves;
      less = omega (arith, x.spent, y.spent, c.in_ok-alike.ensures.spent, c.loop-work.invariant.less);
    }
