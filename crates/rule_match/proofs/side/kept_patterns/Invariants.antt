use Rattle.std.proofs.Common.{◌≡◌, map, take}
use Rattle.rule_match.specs.Rows.{kept_cell, pattern_cell}
use Rattle.rule_match.proofs.side.kept_patterns.Given as goal

abbrev pub invariant-loop-pattern : goal.invariant-loop-pattern
invariant-loop-pattern l = map kept_cell l.kept.items ≡ map pattern_cell (take l.pattern-index l.patterns)
