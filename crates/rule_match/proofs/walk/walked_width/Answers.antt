use Rattle.std.proofs.Common.{◌≡◌, ◌∙◌, ◌<◌, ◌≤◌, ◌+◌, ap, refl, max, drop, length, ℕ, arith}
use Rattle.dk_model.specs.Matrix.{width}
use Rattle.rule_match.proofs.Walking.{beside_left, none_behind, wider, as_wide}
use Rattle.rule_match.proofs.walk.walked_width.Goals.{then-patterns-count+then-width-patterns, else-patterns-count, else-patterns-count-via-then-patterns-count+else-width-patterns, else-patterns-count-via-else-patterns-count}
use Rattle.rule_match.proofs.walk.walked_width.Goals as goal

pub loop-side-preserved : goal.loop-side-preserved
loop-side-preserved c = record {
  within = elim c.if-patterns-count.branch [
    | then-patterns-count+then-width-patterns w ↦ omega (arith, w.width-is, w.if-patterns-count.true)
    | else-patterns-count w ↦ omega (arith, w.width-is, c.loop-side.invariant.within)
  ];
  most = λ rules a.
      let p : ℕ = length c.side-item.result.patterns.now in
      let lt : c.loop-side.side-index < length c.args.sides.now = omega (arith, c.loop-side-test.true) in
      let b = beside_left rules c.args.sides.now c.loop-side.side-index c.side-item.result a lt c.side-item.is in
      elim c.if-patterns-count.branch [
        | then-patterns-count+then-width-patterns w ↦
            let e : c.if-patterns-count.width ≡ max c.loop-side.width p = omega (arith, w.width-is, w.if-width-patterns.true) in
            ap (λ k. max k (width c.args.count (drop (c.loop-side.side-index + 1) rules))) e
            ∙ wider rules c.loop-side.side-index p c.side-item.result b refl c.args.count c.loop-side.width (width c.args.count rules) w.if-patterns-count.true (c.loop-side.invariant.most rules a)
        | else-patterns-count w ↦ elim w.else-patterns-count.branch [
          | else-patterns-count-via-then-patterns-count+else-width-patterns w' ↦
              let e : c.if-patterns-count.width ≡ max c.loop-side.width p = omega (arith, w.width-is, w'.if-width-patterns.false) in
              ap (λ k. max k (width c.args.count (drop (c.loop-side.side-index + 1) rules))) e
              ∙ wider rules c.loop-side.side-index p c.side-item.result b refl c.args.count c.loop-side.width (width c.args.count rules) w'.if-patterns-count.true (c.loop-side.invariant.most rules a)
          | else-patterns-count-via-else-patterns-count w' ↦
              ap (λ k. max k (width c.args.count (drop (c.loop-side.side-index + 1) rules))) w.width-is
              ∙ as_wide rules c.loop-side.side-index p c.side-item.result b refl c.args.count c.loop-side.width (width c.args.count rules) (omega (arith, w'.if-patterns-count.false)) (c.loop-side.invariant.most rules a)
        ]
      ];
}

pub returns-clause-width : goal.returns-clause-width
returns-clause-width c = λ rules a.
    let e = ap (width c.args.count) (none_behind rules c.args.sides.now c.loop-side.side-index a (let l : length c.args.sides.now ≤ c.loop-side.side-index = omega (arith, c.loop-side-test.false) in l)) in
    let h = c.loop-side.invariant.most rules a in omega (arith, e, h)
