use Rattle.std.proofs.Common.{◌≡◌, ◌++◌, map, take}
use Rattle.rule_match.specs.Rows.{pattern_cell, plain_cell}
use Rattle.rule_match.proofs.refine.push_patterns.Given as goal

abbrev pub invariant-loop-pattern : goal.invariant-loop-pattern
invariant-loop-pattern l = map plain_cell l.cells.items ≡ map plain_cell l.fn.cells.items ++ map pattern_cell (take l.pattern-index l.patterns)
