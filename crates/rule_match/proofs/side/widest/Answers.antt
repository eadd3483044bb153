use Rattle.std.proofs.Common.{◌≡◌, ◌∙◌, ◌<◌, ◌≤◌, ◌+◌, ap, max, drop, length, arith}
use Rattle.rule_match.specs.Sides.{widest}
use Rattle.rule_match.proofs.Siding.{beside, none_behind, widest_next}
use Rattle.rule_match.proofs.side.widest.Goals.{then-widest-len, else-widest-len}
use Rattle.rule_match.proofs.side.widest.Goals as goal

pub loop-side-preserved : goal.loop-side-preserved
loop-side-preserved c = λ rules a.
    let lt : c.loop-side.side-index < length c.args.sides.now = omega (arith, c.loop-side-test.true) in
    let b = beside rules c.args.sides.now c.loop-side.side-index c.side-item.result a lt c.side-item.is in
    let p : c.len.result ≡ length c.side-item.result.patterns.items = omega (arith, c.len.ensures, c.side-item.result.patterns.ok.0) in
    let h = widest_next rules c.loop-side.side-index c.len.result c.side-item.result b p c.loop-side.widest (c.loop-side.invariant rules a) in
    let is : c.if-widest-len.widest ≡ max c.loop-side.widest c.len.result = elim c.if-widest-len.branch [
      | then-widest-len w ↦ omega (arith, w.widest-is, w.if-widest-len.true, w.len-widest.ensures, c.len.ensures)
      | else-widest-len w ↦ omega (arith, w.widest-is, w.if-widest-len.false)
    ] in
    ap (λ k. max k (widest (drop (c.loop-side.side-index + 1) rules))) is ∙ h

pub returns : goal.returns
returns c = λ rules a.
    let e = ap widest (none_behind rules c.args.sides.now c.loop-side.side-index a (let l : length c.args.sides.now ≤ c.loop-side.side-index = omega (arith, c.loop-side-test.false) in l)) in
    let h = c.loop-side.invariant rules a in omega (arith, e, h)
