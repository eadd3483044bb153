use Rattle.std.proofs.Common.{◌≡◌, map, take}
use Rattle.signature_log.specs.Rows.{row_rules}
use Rattle.tree_terms.specs.Rules.{rule}
use Rattle.tree_terms.proofs.rules.rules_of.Given as goal

abbrev pub invariant-loop-at : goal.invariant-loop-at
invariant-loop-at l = map rule l.rules.items ≡ take l.at (row_rules l.symbol l.rows)
