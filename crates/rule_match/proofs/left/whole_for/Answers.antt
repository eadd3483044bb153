use Rattle.rule_match.proofs.Following.{whole_sides, no_whole}
use Rattle.rule_match.proofs.left.whole_for.Goals as goal

pub returns-in-Tree : goal.returns-in-Tree
returns-in-Tree c = λ rules i j. absurd (no_whole rules c.args.source.now c.in-Tree.field-0 c.args.width c.in-Tree.is j)

pub returns-in-Sides : goal.returns-in-Sides
returns-in-Sides c = whole_sides c.args.source.now c.in-Sides.sides c.args.width c.args.tried c.args.key c.args.column c.walked_kept.result c.in-Sides.is (rw c.as_slice.ensures.value at c.walked_kept.ensures)
