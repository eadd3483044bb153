use Rattle.std.proofs.Common.{◌≡◌, ◌+◌, ◌∙◌, ◌++◌, ap, List, map, take, drop}
use Rattle.dk_model.specs.Matrix.{cell_at}
use Rattle.dk_model.specs.Matrix.{Cell as PlainCell}
use Rattle.rule_match.specs.declared.cell.Cell.{Cell}
use Rattle.rule_match.specs.Rows.{plain_cell}
use Rattle.rule_match.specs.Keys.{cells_after}
use Rattle.rule_match.proofs.Refining.{cells_joined}
use Rattle.rule_match.proofs.refine.refined_row.Goals as goal

pub returns-clause-cells : goal.returns-clause-cells
returns-clause-cells c =
    let old : List Cell = c.args.row.now.cells.items in
    let start : c.in_ok-cells.cells.items ≡ take c.args.at old = c.in_ok-cells.ensures.items ∙ c.before-2.ensures ∙ ap (λ (l : List Cell). take c.args.at l) c.as_slice-old.ensures.value in
    let here : plain_cell c.cell_of.result ≡ cell_at (map plain_cell old) c.args.at = c.cell_of.ensures ∙ ap (λ (l : List Cell). cell_at (map plain_cell l) c.args.at) c.as_slice-old.ensures.value in
    let middle : map plain_cell c.push_after.new.cells.items ≡ map plain_cell c.in_ok-cells.cells.items ++ cells_after c.args.count (cell_at (map plain_cell old) c.args.at) =
    c.in_ok-push_after.ensures ∙ ap (λ (x : PlainCell). map plain_cell c.in_ok-cells.cells.items ++ cells_after c.args.count x) here in
    let end : c.extend_from_slice.new.self.items ≡ c.push_after.new.cells.items ++ drop (c.args.at + 1) old =
    c.in_ok-extend_from_slice.ensures.items ∙ ap (λ (l : List Cell). c.push_after.new.cells.items ++ l) (c.after.ensures ∙ ap (λ (l : List Cell). drop (c.args.at + 1) l) c.as_slice-old.ensures.value) in
    cells_joined old c.in_ok-cells.cells.items c.push_after.new.cells.items c.extend_from_slice.new.self.items (cells_after c.args.count (cell_at (map plain_cell old) c.args.at)) c.args.at start middle end
