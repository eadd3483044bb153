use Rattle.std.proofs.Common.{◌≡◌, List, drop, max}
use Rattle.dk_model.specs.Signatures.{PlainRule}
use Rattle.rule_match.specs.Sides.{AreSides, widest}
use Rattle.rule_match.proofs.side.widest.Given as goal

abbrev pub invariant-loop-side : goal.invariant-loop-side
invariant-loop-side l = (rules : List PlainRule) → AreSides rules l.sides → max l.widest (widest (drop l.side-index rules)) ≡ widest rules
