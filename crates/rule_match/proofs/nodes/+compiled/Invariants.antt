use Rattle.std.proofs.Common.{◌<◌, List, map, drop}
use Rattle.dk_model.specs.Signatures.{PlainRule}
use Rattle.rule_match.specs.Rows.{row}
use Rattle.rule_match.specs.Branches.{AreTests}
use Rattle.rule_match.proofs.Compiling.{Branching}
use Rattle.rule_match.proofs.nodes.+compiled.Given as goal

abbrev pub decreases-compiled : goal.decreases-compiled
decreases-compiled l = l.budget.now

abbrev pub invariant-loop-group : goal.invariant-loop-group
invariant-loop-group l = record {
  spent : l.budget < l.fn.budget;
  branching : (rules : List PlainRule) → AreTests rules l.fn.nodes.items → Branching rules l.fn.nodes.items l.nodes.items l.column (drop l.tried (map (row rules) l.rows)) l.branches.items;
}
