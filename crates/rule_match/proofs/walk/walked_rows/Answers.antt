use Rattle.std.proofs.Common.{◌∙◌, ◌<◌, ◌≤◌, ◌+◌, ◌++◌, Vec, Global, ap, map, drop, length, refl, ℕ, arith}
use Rattle.dk_model.specs.Matrix.{rows_for}
use Rattle.rule_match.specs.declared.cell.Row.{Row}
use Rattle.rule_match.specs.Rows.{row}
use Rattle.rule_match.proofs.Walking.{beside_left, row_added, row_passed, all_rows}
use Rattle.rule_match.proofs.walk.walked_rows.Goals.{then-side-count+in_ok-row+in_ok-push, else-side-count}
use Rattle.rule_match.proofs.walk.walked_rows.Goals as goal

pub loop-at-preserved : goal.loop-at-preserved
loop-at-preserved c = λ rules a.
    let lt : c.loop-at.at < length c.args.sides.now = omega (arith, c.loop-at-test.true) in
    let b = beside_left rules c.args.sides.now c.loop-at.at c.index-sides-at.result a lt c.index-sides-at.is in
    let n : ℕ = length c.index-sides-at.result.patterns.now in
    elim c.if-side-count.branch [
      | then-side-count+in_ok-row+in_ok-push w ↦
          row_added rules c.loop-at.at n c.index-sides-at.result b refl c.args.count c.args.width c.loop-at.rows.items (rows_for c.args.count c.args.width rules) (c.loop-at.invariant rules a)
          c.if-side-count.rows.items w.in_ok-row.row w.if-side-count.true
          w.in_ok-row.ensures.cells
          w.in_ok-row.ensures.at (ap (λ (u : Vec Row Global). u.items) w.rows-is ∙ w.in_ok-push.ensures.items)
      | else-side-count w ↦
          ap (λ (u : Vec Row Global). map (row rules) u.items ++ rows_for c.args.count c.args.width (drop (c.loop-at.at + 1) rules)) w.rows-is
          ∙ row_passed rules c.loop-at.at n c.index-sides-at.result b refl c.args.count c.args.width c.loop-at.rows.items (rows_for c.args.count c.args.width rules) (c.loop-at.invariant rules a)
          (omega (arith, w.if-side-count.false))
    ]

pub returns : goal.returns
returns c = λ rules a. all_rows rules c.args.sides.now c.loop-at.at c.args.count c.args.width c.loop-at.rows.items (rows_for c.args.count c.args.width rules) a (let l : length c.args.sides.now ≤ c.loop-at.at = omega (arith, c.loop-at-test.false) in l) (c.loop-at.invariant rules a)
