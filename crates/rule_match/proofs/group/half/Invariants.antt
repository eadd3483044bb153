use Rattle.std.proofs.Common.{◌≡◌, ◌++◌, List, map, drop}
use Rattle.dk_model.specs.Signatures.{PlainRule}
use Rattle.rule_match.specs.declared.key.Key.{Key}
use Rattle.rule_match.specs.Keys.{comes_before, rows_by}
use Rattle.rule_match.specs.Rows.{row}
use Rattle.rule_match.proofs.group.half.Given as goal

abbrev pub invariant-loop-row : goal.invariant-loop-row
invariant-loop-row l = (rules : List PlainRule) (key : Key) → comes_before key l.pivot ≡ l.before
    → rows_by key l.column (map (row rules) l.half.items) ++ rows_by key l.column (map (row rules) (drop l.row-index l.rows)) ≡ rows_by key l.column (map (row rules) l.rows)
