use Rattle.std.proofs.Common.{◌≡◌, List, drop, max}
use Rattle.dk_model.specs.Signatures.{PlainRule}
use Rattle.rule_match.specs.Sides.{AreLeftSides, widest}
use Rattle.rule_match.proofs.walk.widest_side.Given as goal

abbrev pub invariant-loop-side : goal.invariant-loop-side
invariant-loop-side l = (rules : List PlainRule) → AreLeftSides rules l.sides → max l.widest (widest (drop l.side-index rules)) ≡ widest rules
