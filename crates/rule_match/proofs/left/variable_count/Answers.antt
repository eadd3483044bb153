use Rattle.std.proofs.Common.{subst}
use Rattle.rule_match.specs.declared.left.Source.{Source}
use Rattle.rule_match.specs.Remaining.{IsSource}
use Rattle.rule_match.proofs.Placing.{has_variables}
use Rattle.rule_match.proofs.Walking.{has_variables as has_left_variables}
use Rattle.rule_match.proofs.left.variable_count.Goals as goal

pub returns-in-Tree : goal.returns-in-Tree
returns-in-Tree c = λ rules h.
    has_variables rules c.in-Tree.tree.now.sides.items c.args.at c.index.result.now (subst (λ (s : Source). IsSource rules s) c.in-Tree.is h).nodes.sides (rw c.in-Tree.is at c.requires) c.index.ensures

pub returns-in-Sides : goal.returns-in-Sides
returns-in-Sides c = λ rules h.
    has_left_variables rules c.in-Sides.sides.items c.args.at c.index-in-Sides.result.now (subst (λ (s : Source). IsSource rules s) c.in-Sides.is h) (rw c.in-Sides.is at c.requires) c.index-in-Sides.ensures
