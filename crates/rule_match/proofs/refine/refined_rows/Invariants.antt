use Rattle.std.proofs.Common.{◌≡◌, ◌++◌, List, map, drop}
use Rattle.dk_model.specs.Signatures.{PlainRule}
use Rattle.rule_match.specs.Keys.{rows_by}
use Rattle.rule_match.specs.Rows.{row}
use Rattle.rule_match.proofs.refine.refined_rows.Given as goal

abbrev pub invariant-loop-row : goal.invariant-loop-row
invariant-loop-row l = (rules : List PlainRule) → map (row rules) l.kept.items ++ rows_by l.key l.at (map (row rules) (drop l.row-index l.rows)) ≡ rows_by l.key l.at (map (row rules) l.rows)
