use Rattle.std.proofs.Common.{◌≡◌, map, take}
use Rattle.tree_evaluation.specs.Views.{pattern_cell, plain_cells}
use Rattle.tree_evaluation.proofs.matrix.cells_of.Given as goal

abbrev pub invariant-loop-pattern : goal.invariant-loop-pattern
invariant-loop-pattern l = plain_cells l.cells.items ≡ map pattern_cell (take l.pattern-index l.patterns)
