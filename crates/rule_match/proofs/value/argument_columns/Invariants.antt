use Rattle.std.proofs.Common.{◌≡◌, ◌++◌, map, vec_len}
use Rattle.rule_match.specs.Columns.{from_top}
use Rattle.rule_match.specs.Columns.{argument_column}
use Rattle.rule_match.proofs.value.argument_columns.Given as goal

abbrev pub invariant-loop-argument : goal.invariant-loop-argument
invariant-loop-argument l = l.columns.items ++ map (argument_column l.depth) (from_top l.stack.items) ≡ map (argument_column l.depth) (from_top l.fn.stack.items)

abbrev pub decreases-loop-argument : goal.decreases-loop-argument
decreases-loop-argument l = vec_len l.stack
