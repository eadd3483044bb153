-- For proofs: what the code holds, as the plain data of dk_model.
use Rattle.std.specs.Prelude.{ℕ, ◌+◌, ◌++◌, Option, Some, None, Bool, List, ◌∷◌, map, take, drop, if◌then◌else◌}
use Rattle.std.specs.Option.{option_map}
use Rattle.std.specs.declared.vec.Vec.{Vec}
use Rattle.std.specs.declared.alloc.Global.{Global}
pub use Rattle.dk_model.specs.Trees.{Tree, tree}
use Rattle.dk_model.specs.Signatures.{maybe_tree}
use Rattle.dk_model.specs.Matrix.{blank, cell, cell_at, refined_cells, Cell as PlainCell, Column as PlainColumn, Row as PlainRow}
use Rattle.dk_model.specs.Captures.{Captures}
use Rattle.dk_model.specs.Selection.{PartTrial as PlainPartTrial, CellTrial as PlainCellTrial, RowTrial as PlainRowTrial, Selected as PlainSelected}
use Rattle.tree_evaluation.specs.declared.matrix.Cell.TheVariants.{Blank, Pattern as Asks}
pub use Rattle.told_steps.specs.Ends.{column_of, columns_of}
use Rattle.tree_evaluation.specs.declared.telling.Telling.{Telling}
use Rattle.tree_evaluation.specs.declared.trees.Trees.{Trees}
pub use Rattle.dk_model.specs.declared.term.Term.{Term}
pub use Rattle.dk_model.specs.declared.signature.Pat.{Pat}
pub use Rattle.shared_term.specs.declared.stored.Stored.{Stored}
pub use Rattle.tree_terms.specs.Rules.{stored_pattern, rule}
pub use Rattle.tree_terms.specs.declared.rules.SymbolRule.{SymbolRule}
pub use Rattle.certificate_items.specs.declared.item.Join.{Join}
pub use Rattle.told_steps.specs.declared.told.Told.{Told}
pub use Rattle.told_steps.specs.declared.end.End.{End}
pub use Rattle.told_steps.specs.declared.meeting.Meeting.{Meeting}
pub use Rattle.tree_evaluation.specs.declared.matrix.Cell.{Cell}
pub use Rattle.tree_evaluation.specs.declared.matrix.Row.{Row}
pub use Rattle.tree_evaluation.specs.declared.select.Captured.{Captured}
pub use Rattle.tree_evaluation.specs.declared.select.Selected.{Selected}
pub use Rattle.tree_evaluation.specs.declared.select.PartTrial.{PartTrial}
pub use Rattle.tree_evaluation.specs.declared.select.CellTrial.{CellTrial}
pub use Rattle.tree_evaluation.specs.declared.select.RowTrial.{RowTrial}

-- every term is one of the reducer's
abbrev pub owned : Trees → Term → Type 0
owned r t = Unit {0}

-- and stands for itself
abbrev pub denoted : Trees → Term → Tree
denoted r t = tree t

-- the units that an evaluation has left
abbrev pub units_left : Telling → ℕ
units_left telling = telling.left

-- the matrix

abbrev pub pattern_cell : Pat Stored → PlainCell
pattern_cell p = cell (stored_pattern p)

abbrev pub plain_cell : Cell → PlainCell
plain_cell Blank = blank
plain_cell (Asks p) = pattern_cell p.now

abbrev pub plain_cells : List Cell → List PlainCell
plain_cells cs = map plain_cell cs

-- a column at this depth
abbrev pub at_depth : ℕ → Tree → PlainColumn
at_depth depth t = record { depth = depth; term = t }

abbrev pub row : Row → PlainRow
row r = record { cells = map plain_cell r.cells.items; rule = rule r.rule }

-- the cells for a value that is taken, where it is
abbrev pub cells_if : List PlainCell → Bool → Option (List PlainCell)
cells_if cs taken = if taken then Some (blank ∷ cs) else None

-- a row where column `i` has this value, of `count` parts; None where it is dropped
abbrev pub refined_row : Tree → ℕ → ℕ → PlainRow → Option PlainRow
refined_row value count i r =
    option_map (λ cells. record { cells = take i r.cells ++ cells ++ drop (i + 1) r.cells; rule = r.rule }) (refined_cells value count (cell_at r.cells i))

-- captures and trials

abbrev pub captures_of : Vec (Option Term) Global → Captures
captures_of cs = map maybe_tree cs.items

abbrev pub capturing : Option Captured → Option Captures
capturing o = option_map (λ c. captures_of c.captures) o

abbrev pub part_trial : PartTrial → PlainPartTrial
part_trial t = record { term = tree t.told.form; fits = t.fits }

abbrev pub cell_trial : CellTrial → PlainCellTrial
cell_trial t = record { captures = capturing t.captured; column = column_of t.column }

abbrev pub row_trial : RowTrial → PlainRowTrial
row_trial t = record { captures = capturing t.captured; columns = columns_of t.columns }

abbrev pub plain_selected : Selected → PlainSelected
plain_selected t = record { captures = captures_of t.captures; rule = rule t.rule }

abbrev pub selected : Option Selected → Option PlainSelected
selected o = option_map plain_selected o
