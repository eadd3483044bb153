use Rattle.std.proofs.Common.{◌≡◌, List, map, take}
use Rattle.dk_model.specs.Signatures.{PlainRule}
use Rattle.rule_match.specs.Rows.{row, kept_row}
use Rattle.rule_match.proofs.cell.kept_rows.Given as goal

abbrev pub invariant-loop-row : goal.invariant-loop-row
invariant-loop-row l = (rules : List PlainRule) → map (kept_row rules) l.kept.items ≡ map (row rules) (take l.row-index l.rows)
