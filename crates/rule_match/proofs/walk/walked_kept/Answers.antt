use Rattle.std.proofs.Common.{◌≡◌, ◌∙◌, ◌<◌, ◌≤◌, ◌-◌, ◌+◌, ◌++◌, ℕ, Vec, Global, ap, sym as flip, map, drop, length, arith}
use Rattle.std.specs.Prelude.{replicate}
use Rattle.dk_model.specs.Matrix.{blank, cell_at, rows_for}
use Rattle.rule_match.specs.declared.cell.Row.{Row}
use Rattle.rule_match.specs.Keys.{is_kept, cells_when_kept, rows_by}
use Rattle.rule_match.specs.Rows.{plain_cell, pattern_cell, row}
use Rattle.rule_match.proofs.Walking.{whole_dropped, whole_kept, whole_done}
use Rattle.rule_match.proofs.walk.walked_kept.Goals.{then-is_kept+in_ok-row+in_ok-refined_row+in_ok-push, else-is_kept}
use Rattle.rule_match.proofs.walk.walked_kept.Goals as goal

pub loop-at-preserved : goal.loop-at-preserved
loop-at-preserved c = λ rules a fits.
    let n : ℕ = c.args.width - length c.index-sides-at.result.patterns.now in
    let l : c.loop-at.at < length c.args.sides.now = omega (arith, c.loop-at-test.true) in
    let h = c.loop-at.invariant rules a fits in
    let here : is_kept c.args.key (cell_at (map pattern_cell c.index-sides-at.result.patterns.now ++ replicate n blank) c.args.column) ≡ c.is_kept.result =
    flip (c.is_kept.ensures ∙ ap (is_kept c.args.key) (c.side_cell.ensures n)) in
    elim c.if-is_kept.branch [
      | then-is_kept+in_ok-row+in_ok-refined_row+in_ok-push w ↦
          whole_kept rules c.args.sides.now c.args.width c.loop-at.at a fits c.index-sides-at.result l c.index-sides-at.is c.args.key c.args.column c.loop-at.kept.items _ h
          w.in_ok-row.row w.in_ok-refined_row.field-0 c.if-is_kept.kept.items (here ∙ w.if-is_kept.true) w.in_ok-row.ensures.cells w.in_ok-row.ensures.at
          (w.in_ok-refined_row.ensures.cells ∙ ap (λ (k : ℕ). cells_when_kept k c.args.column (map plain_cell w.in_ok-row.row.cells.items)) w.parts.ensures)
          w.in_ok-refined_row.ensures.rule (ap (λ (u : Vec Row Global). u.items) w.kept-is ∙ w.in_ok-push.ensures.items)
      | else-is_kept w ↦
          ap (λ (u : Vec Row Global). map (row rules) u.items ++ rows_by c.args.key c.args.column (drop (c.loop-at.at + 1) (rows_for c.args.width c.args.width rules))) w.kept-is
          ∙ whole_dropped rules c.args.sides.now c.args.width c.loop-at.at a fits c.index-sides-at.result l c.index-sides-at.is c.args.key c.args.column c.loop-at.kept.items _ h (here ∙ w.if-is_kept.false)
    ]

pub returns : goal.returns
returns c = λ rules a fits. whole_done rules c.args.sides.now c.args.width c.loop-at.at c.args.key c.args.column c.loop-at.kept.items _ a fits (let l : length c.args.sides.now ≤ c.loop-at.at = omega (arith, c.loop-at-test.false) in l) (c.loop-at.invariant rules a fits)
