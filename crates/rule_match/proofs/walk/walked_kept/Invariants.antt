use Rattle.std.proofs.Common.{◌≡◌, ◌≤◌, ◌++◌, List, drop, map}
use Rattle.dk_model.specs.Signatures.{PlainRule}
use Rattle.dk_model.specs.Matrix.{rows_for}
use Rattle.rule_match.specs.Keys.{rows_by}
use Rattle.rule_match.specs.Rows.{row}
use Rattle.rule_match.specs.Sides.{AreLeftSides, widest}
use Rattle.rule_match.proofs.walk.walked_kept.Given as goal

abbrev pub invariant-loop-at : goal.invariant-loop-at
invariant-loop-at l = (rules : List PlainRule) → AreLeftSides rules l.sides → widest rules ≤ l.width
    → map (row rules) l.kept.items ++ rows_by l.key l.column (drop l.at (rows_for l.width l.width rules)) ≡ rows_by l.key l.column (drop l.tried (rows_for l.width l.width rules))
