use Rattle.rule_match.proofs.Following.{root_found}
use Rattle.rule_match.proofs.left.root_of.Goals as goal

pub returns-in-Some : goal.returns-in-Some
returns-in-Some c = root_found c.args.tree.now c.in-Some.place c.node_at.result c.node_at.ensures c.in-Some.is
