use Rattle.std.proofs.Common.{ℕ, take}
use Rattle.signature_log.specs.Rows.{row_rules}
use Rattle.rule_match.specs.Sides.{AreLeftSides}
use Rattle.signature_log.proofs.rows.Rows.sides.Given as goal

abbrev pub invariant-loop-at : goal.invariant-loop-at
invariant-loop-at l = (k : ℕ) → AreLeftSides (take l.at (row_rules k l.self)) l.sides.items
