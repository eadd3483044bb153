use Rattle.std.proofs.Common.{◌≡◌, ◌++◌, map, replicate}
use Rattle.dk_model.specs.Matrix.{blank}
use Rattle.rule_match.specs.Rows.{plain_cell}
use Rattle.rule_match.proofs.refine.push_blanks.Given as goal

abbrev pub invariant-loop-i : goal.invariant-loop-i
invariant-loop-i l = map plain_cell l.cells.items ≡ map plain_cell l.fn.cells.items ++ replicate l._i blank
