use Rattle.std.proofs.Common.{◌≡◌, map, take}
use Rattle.rule_match.specs.Rows.{plain_cell, kept_cell}
use Rattle.rule_match.proofs.cell.kept_cells.Given as goal

abbrev pub invariant-loop-cell : goal.invariant-loop-cell
invariant-loop-cell l = map kept_cell l.kept.items ≡ map plain_cell (take l.cell-index l.cells)
