use Rattle.rule_match.proofs.Placing.{nodes_are_tree, nodes_placed}
use Rattle.rule_match.proofs.tree.compile.Goals as goal

pub returns-clause-is : goal.returns-clause-is
returns-clause-is c = nodes_are_tree c.args.sides.now c.tree_of.result c.tree_of.ensures

pub returns-clause-placed : goal.returns-clause-placed
returns-clause-placed c = nodes_placed c.args.sides.now c.tree_of.result c.tree_of.ensures
