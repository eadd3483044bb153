use Rattle.std.proofs.Common.{◌∙◌, length, map, ap, sym as flip}
use Rattle.dk_model.specs.Trees.{symbol, variable}
use Rattle.dk_model.specs.Spines.{head, arguments}
use Rattle.dk_model.specs.Matrix.{cell, heads_same, refined_cells}
use Rattle.tree_evaluation.specs.Views.{Pat, Stored, pattern_cell, stored_pattern, cells_if, tree}
use Rattle.tree_evaluation.proofs.Rows.{parts_taken}
use Rattle.tree_evaluation.proofs.matrix.pattern_refined.Goals as goal

pub returns-in_ok-opened_if-in-Sym : goal.returns-in_ok-opened_if-in-Sym
returns-in_ok-opened_if-in-Sym c =
    let v = tree c.args.value.now in
    let e = rw c.as_slice-patterns.ensures at c.in_ok-opened_if-in-Sym.ensures in
    e ∙ ap (cells_if (map pattern_cell c.in-Sym.patterns)) (rw c.as_slice-patterns.ensures at c.is_applied-taken.ensures)
    ∙ flip (ap (λ (p : Pat Stored). refined_cells v c.args.count (cell (stored_pattern p))) c.in-Sym.is ∙ parts_taken c.in-Sym.patterns (heads_same (head v) (symbol c.in-Sym.k)) (length (arguments v)))

pub returns-in_ok-opened_if-in-Var : goal.returns-in_ok-opened_if-in-Var
returns-in_ok-opened_if-in-Var c =
    let v = tree c.args.value.now in
    let e = rw c.as_slice-patterns-in-Var.ensures at c.in_ok-opened_if-in-Var.ensures in
    let taken = rw c.as_slice-patterns-in-Var.ensures at c.is_applied-taken-in-Var.ensures in
    e ∙ ap (cells_if (map pattern_cell c.in-Var.patterns)) (rw c.from.ensures at taken)
    ∙ flip (ap (λ (p : Pat Stored). refined_cells v c.args.count (cell (stored_pattern p))) c.in-Var.is ∙ parts_taken c.in-Var.patterns (heads_same (head v) (variable c.in-Var.k)) (length (arguments v)))
