use Rattle.std.proofs.Common.{arith}
use Rattle.rule_match.proofs.Following.{child_found}
use Rattle.rule_match.proofs.left.branch_for.Goals as goal

pub returns-in-Some : goal.returns-in-Some
returns-in-Some c =
    child_found c.args.tree.now c.args.node.now c.args.tried c.args.key c.args.column c.in-Some.place c.node_at.result c.node_at.ensures (rw c.as_slice.ensures.value at c.in-Some.ensures)
    (omega (arith, c.if-node-tried.false)) (omega (arith, c.if-node-column.false))
