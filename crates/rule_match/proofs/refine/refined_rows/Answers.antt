use Rattle.std.proofs.Common.{◌≡◌, ◌∙◌, ◌++◌, ◌<◌, ◌≤◌, List, Vec, Global, length, map, drop, ◌+◌, true, false, ap, sym as flip, arith}
use Rattle.dk_model.specs.Matrix.{cell_at}
use Rattle.rule_match.specs.declared.cell.Cell.{Cell}
use Rattle.rule_match.specs.declared.cell.Row.{Row}
use Rattle.rule_match.specs.Rows.{plain_cell, row}
use Rattle.rule_match.specs.Keys.{is_kept, cells_when_kept, rows_by}
use Rattle.rule_match.proofs.Refining.{dropped_here, kept_here, all_refined}
use Rattle.rule_match.proofs.refine.refined_rows.Goals.{then-is_kept+in_ok-refined+in_ok-push, else-is_kept}
use Rattle.rule_match.proofs.refine.refined_rows.Goals as goal

pub loop-row-preserved : goal.loop-row-preserved
loop-row-preserved c = λ rules.
    let lt : c.loop-row.row-index < length c.args.rows.now = omega (arith, c.loop-row-test.true) in
    let here : plain_cell c.cell_of-cell.result ≡ cell_at (map plain_cell c.row-item.result.cells.items) c.args.at =
    c.cell_of-cell.ensures ∙ ap (λ (l : List Cell). cell_at (map plain_cell l) c.args.at) c.as_slice.ensures.value in
    elim c.if-is_kept.branch [
      | then-is_kept+in_ok-refined+in_ok-push w ↦
          let e : is_kept c.args.key (cell_at (map plain_cell c.row-item.result.cells.items) c.args.at) ≡ true = ap (is_kept c.args.key) (flip here) ∙ flip c.is_kept.ensures ∙ w.if-is_kept.true in
          kept_here rules c.args.key c.args.at c.loop-row.row-index c.args.rows.now c.loop-row.kept.items c.row-item.result _ lt c.row-item.is (c.loop-row.invariant rules)
          w.in_ok-refined.refined c.if-is_kept.kept.items e
          (w.in_ok-refined.ensures.cells ∙ ap (λ (n : _). cells_when_kept n c.args.at (map plain_cell c.row-item.result.cells.items)) w.parts.ensures) w.in_ok-refined.ensures.rule
          (ap (λ (u : Vec Row Global). u.items) w.kept-is ∙ w.in_ok-push.ensures.items)
      | else-is_kept w ↦
          let e : is_kept c.args.key (cell_at (map plain_cell c.row-item.result.cells.items) c.args.at) ≡ false = ap (is_kept c.args.key) (flip here) ∙ flip c.is_kept.ensures ∙ w.if-is_kept.false in
          ap (λ (u : Vec Row Global). map (row rules) u.items ++ rows_by c.args.key c.args.at (map (row rules) (drop (c.loop-row.row-index + 1) c.args.rows.now))) w.kept-is
          ∙ dropped_here rules c.args.key c.args.at c.loop-row.row-index c.args.rows.now c.loop-row.kept.items c.row-item.result _ lt c.row-item.is (c.loop-row.invariant rules) e
    ]

pub returns : goal.returns
returns c = λ rules. all_refined rules c.args.key c.args.at c.args.rows.now c.loop-row.kept.items c.loop-row.row-index _ (let l : length c.args.rows.now ≤ c.loop-row.row-index = omega (arith, c.loop-row-test.false) in l) (c.loop-row.invariant rules)
