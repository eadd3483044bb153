use Rattle.std.proofs.Common.{◌≡◌, ◌≤◌, arith}
use Rattle.dk_model.specs.Matrix.{width}
use Rattle.rule_match.specs.Sides.{widest}
use Rattle.rule_match.proofs.Siding.{width_full}
use Rattle.rule_match.proofs.Following.{width_within}
use Rattle.rule_match.proofs.left.width_before.Goals as goal

pub returns-then-count-tree-clause-width : goal.returns-then-count-tree-clause-width
returns-then-count-tree-clause-width c = λ rules t.
    let l : widest rules ≤ c.args.count = omega (arith, t.nodes.most, c.if-count-tree.true) in
    let e : width c.args.count rules ≡ widest rules = width_full rules c.args.count l in omega (arith, t.nodes.most, e)

pub returns-else-count-tree-clause-width : goal.returns-else-count-tree-clause-width
returns-else-count-tree-clause-width c = λ rules t.
    let a : c.width.result ≡ width c.args.count rules = (rw c.as_slice.ensures.value at c.width.ensures) rules t.nodes.sides in
    let l : width c.args.count rules ≤ c.args.count = width_within c.args.count rules in omega (arith, a, l, c.min.ensures)
