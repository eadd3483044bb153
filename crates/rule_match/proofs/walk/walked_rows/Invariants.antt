use Rattle.std.proofs.Common.{◌≡◌, ◌++◌, List, drop, map}
use Rattle.dk_model.specs.Signatures.{PlainRule}
use Rattle.dk_model.specs.Matrix.{rows_for}
use Rattle.rule_match.specs.Rows.{row}
use Rattle.rule_match.specs.Sides.{AreLeftSides}
use Rattle.rule_match.proofs.walk.walked_rows.Given as goal

abbrev pub invariant-loop-at : goal.invariant-loop-at
invariant-loop-at l = (rules : List PlainRule) → AreLeftSides rules l.sides → map (row rules) l.rows.items ++ rows_for l.count l.width (drop l.at rules) ≡ rows_for l.count l.width rules
