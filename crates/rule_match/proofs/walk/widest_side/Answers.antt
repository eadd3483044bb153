use Rattle.std.proofs.Common.{◌≡◌, ◌∙◌, ◌<◌, ◌≤◌, ◌+◌, ap, max, refl, drop, length, ℕ, arith}
use Rattle.rule_match.specs.Sides.{widest}
use Rattle.rule_match.proofs.Walking.{beside_left, none_behind, widest_next}
use Rattle.rule_match.proofs.walk.widest_side.Goals.{then-widest-side, else-widest-side}
use Rattle.rule_match.proofs.walk.widest_side.Goals as goal

pub loop-side-preserved : goal.loop-side-preserved
loop-side-preserved c = λ rules a.
    let p : ℕ = length c.side-item.result.patterns.now in
    let lt : c.loop-side.side-index < length c.args.sides.now = omega (arith, c.loop-side-test.true) in
    let b = beside_left rules c.args.sides.now c.loop-side.side-index c.side-item.result a lt c.side-item.is in
    let is : c.if-widest-side.widest ≡ max c.loop-side.widest p = elim c.if-widest-side.branch [
      | then-widest-side w ↦ omega (arith, w.widest-is, w.if-widest-side.true)
      | else-widest-side w ↦ omega (arith, w.widest-is, w.if-widest-side.false)
    ] in
    ap (λ k. max k (widest (drop (c.loop-side.side-index + 1) rules))) is
    ∙ widest_next rules c.loop-side.side-index p c.side-item.result b refl c.loop-side.widest (c.loop-side.invariant rules a)

pub returns : goal.returns
returns c = λ rules a.
    let e = ap widest (none_behind rules c.args.sides.now c.loop-side.side-index a (let l : length c.args.sides.now ≤ c.loop-side.side-index = omega (arith, c.loop-side-test.false) in l)) in
    let h = c.loop-side.invariant rules a in omega (arith, e, h)
