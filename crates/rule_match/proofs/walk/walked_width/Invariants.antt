use Rattle.std.proofs.Common.{◌≡◌, ◌≤◌, List, drop, max}
use Rattle.dk_model.specs.Signatures.{PlainRule}
use Rattle.dk_model.specs.Matrix.{width}
use Rattle.rule_match.specs.Sides.{AreLeftSides}
use Rattle.rule_match.proofs.walk.walked_width.Given as goal

abbrev pub invariant-loop-side : goal.invariant-loop-side
invariant-loop-side l = record {
  within : l.width ≤ l.count;
  most : (rules : List PlainRule) → AreLeftSides rules l.sides → max l.width (width l.count (drop l.side-index rules)) ≡ width l.count rules;
}
