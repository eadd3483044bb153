use Rattle.std.proofs.Common.{◌≡◌, ◌∙◌, ◌<◌, ◌≤◌, ◌+◌, ap, max, drop, length, arith}
use Rattle.dk_model.specs.Matrix.{width}
use Rattle.rule_match.proofs.Siding.{beside, none_behind, wider, as_wide}
use Rattle.rule_match.proofs.side.width.Goals.{then-patterns-count+then-width-patterns, else-patterns-count, else-patterns-count-via-then-patterns-count+else-width-patterns, else-patterns-count-via-else-patterns-count}
use Rattle.rule_match.proofs.side.width.Goals as goal

pub loop-side-preserved : goal.loop-side-preserved
loop-side-preserved c = λ rules a.
    let lt : c.loop-side.side-index < length c.args.sides.now = omega (arith, c.loop-side-test.true) in
    let b = beside rules c.args.sides.now c.loop-side.side-index c.side-item.result a lt c.side-item.is in
    let p : c.len-patterns.result ≡ length c.side-item.result.patterns.items = omega (arith, c.len-patterns.ensures, c.side-item.result.patterns.ok.0) in
    elim c.if-patterns-count.branch [
      | then-patterns-count+then-width-patterns w ↦
          let e : c.if-patterns-count.width ≡ max c.loop-side.width c.len-patterns.result = omega (arith, w.width-is, w.if-width-patterns.true) in
          ap (λ k. max k (width c.args.count (drop (c.loop-side.side-index + 1) rules))) e
          ∙ wider rules c.loop-side.side-index c.len-patterns.result c.side-item.result b p c.args.count c.loop-side.width (width c.args.count rules) w.if-patterns-count.true (c.loop-side.invariant rules a)
      | else-patterns-count w ↦ elim w.else-patterns-count.branch [
        | else-patterns-count-via-then-patterns-count+else-width-patterns w' ↦
            let e : c.if-patterns-count.width ≡ max c.loop-side.width c.len-patterns.result = omega (arith, w.width-is, w'.if-width-patterns.false) in
            ap (λ k. max k (width c.args.count (drop (c.loop-side.side-index + 1) rules))) e
            ∙ wider rules c.loop-side.side-index c.len-patterns.result c.side-item.result b p c.args.count c.loop-side.width (width c.args.count rules) w'.if-patterns-count.true (c.loop-side.invariant rules a)
        | else-patterns-count-via-else-patterns-count w' ↦
            ap (λ k. max k (width c.args.count (drop (c.loop-side.side-index + 1) rules))) w.width-is
            ∙ as_wide rules c.loop-side.side-index c.len-patterns.result c.side-item.result b p c.args.count c.loop-side.width (width c.args.count rules) (omega (arith, w'.if-patterns-count.false)) (c.loop-side.invariant rules a)
      ]
    ]

pub returns : goal.returns
returns c = λ rules a.
    let e = ap (width c.args.count) (none_behind rules c.args.sides.now c.loop-side.side-index a (let l : length c.args.sides.now ≤ c.loop-side.side-index = omega (arith, c.loop-side-test.false) in l)) in
    let h = c.loop-side.invariant rules a in omega (arith, e, h)
