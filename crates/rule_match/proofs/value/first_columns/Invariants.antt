use Rattle.std.proofs.Common.{◌≡◌, map, take}
use Rattle.rule_match.specs.Columns.{from_top, argument_column}
use Rattle.rule_match.proofs.value.first_columns.Given as goal

abbrev pub invariant-loop-i : goal.invariant-loop-i
invariant-loop-i l = l.columns.items ≡ map (argument_column 0) (take l.i (from_top l.stack))
