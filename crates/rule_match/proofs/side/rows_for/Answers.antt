use Rattle.std.proofs.Common.{◌≡◌, ◌∙◌, ◌<◌, ◌≤◌, ◌+◌, ◌-◌, ◌++◌, Vec, Global, ap, map, drop, length, arith}
use Rattle.std.specs.Prelude.{replicate}
use Rattle.dk_model.specs.Matrix.{blank, rows_for}
use Rattle.rule_match.specs.declared.cell.Row.{Row}
use Rattle.rule_match.specs.Rows.{kept_cell, row}
use Rattle.rule_match.proofs.Siding.{beside, row_added, row_passed, all_rows}
use Rattle.rule_match.proofs.side.rows_for.Goals.{then-len-count+in_ok-row+in_ok-push, else-len-count}
use Rattle.rule_match.proofs.side.rows_for.Goals as goal

pub loop-at-preserved : goal.loop-at-preserved
loop-at-preserved c = λ rules a.
    let lt : c.loop-at.at < length c.args.sides.now = omega (arith, c.loop-at-test.true) in
    let b = beside rules c.args.sides.now c.loop-at.at c.index-sides-at.result a lt c.index-sides-at.is in
    let p : c.len.result ≡ length c.index-sides-at.result.patterns.items = omega (arith, c.len.ensures, c.index-sides-at.result.patterns.ok.0) in
    elim c.if-len-count.branch [
      | then-len-count+in_ok-row+in_ok-push w ↦
          row_added rules c.loop-at.at c.len.result c.index-sides-at.result b p c.args.count c.args.width c.loop-at.rows.items (rows_for c.args.count c.args.width rules) (c.loop-at.invariant rules a)
          c.if-len-count.rows.items w.in_ok-row.row w.if-len-count.true
          (w.in_ok-row.ensures.cells ∙ ap (λ n. map kept_cell c.index-sides-at.result.patterns.items ++ replicate (c.args.width - n) blank) (let q : length c.index-sides-at.result.patterns.items ≡ c.len.result = omega (arith, p) in q))
          w.in_ok-row.ensures.at (ap (λ (u : Vec Row Global). u.items) w.rows-is ∙ w.in_ok-push.ensures.items)
      | else-len-count w ↦
          ap (λ (u : Vec Row Global). map (row rules) u.items ++ rows_for c.args.count c.args.width (drop (c.loop-at.at + 1) rules)) w.rows-is
          ∙ row_passed rules c.loop-at.at c.len.result c.index-sides-at.result b p c.args.count c.args.width c.loop-at.rows.items (rows_for c.args.count c.args.width rules) (c.loop-at.invariant rules a)
          (omega (arith, w.if-len-count.false))
    ]

pub returns : goal.returns
returns c = λ rules a. all_rows rules c.args.sides.now c.loop-at.at c.args.count c.args.width c.loop-at.rows.items (rows_for c.args.count c.args.width rules) a (let l : length c.args.sides.now ≤ c.loop-at.at = omega (arith, c.loop-at-test.false) in l) (c.loop-at.invariant rules a)
