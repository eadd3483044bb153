use Rattle.std.proofs.Common.{take}
use Rattle.rule_match.specs.Sides.{AreCopies}
use Rattle.rule_match.proofs.side.sides_of.Given as goal

abbrev pub invariant-loop-side : goal.invariant-loop-side
invariant-loop-side l = AreCopies (take l.side-index l.sides) l.copies.items
