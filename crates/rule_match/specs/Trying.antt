-- For proofs: what the code that tries a row gives: how far it goes, and what is left to be asked.
use Rattle.std.specs.Prelude.{ℕ, ◌≡◌, ◌<◌, ◌+◌, Option, Some, None, Bool, true, List, map, length, get_or, slice_set}
use Rattle.dk_model.specs.Trees.{Tree, star}
use Rattle.dk_model.specs.Substitution.{shift}
use Rattle.dk_model.specs.Signatures.{rule_variable_pattern, guard_pattern}
use Rattle.dk_model.specs.Units.{Units, bind}
use Rattle.dk_model.specs.Matrix.{blank, cell, cell_at}
use Rattle.dk_model.specs.Matrix.{Cell as PlainCell, Column as PlainColumn}
use Rattle.dk_model.specs.Captures.{filled, Captures}
use Rattle.dk_model.specs.Selection.{CellTrial, RowTrial, cell_captures}
use Rattle.shared_term.specs.declared.id.TermId.{TermId}
use Rattle.shared_term.specs.Pools.{Node, term}
use Rattle.shared_term.specs.Storage.{stored_term}
use Rattle.shared_term.specs.Changes.{captured_terms, capture_id}
use Rattle.rule_match.specs.declared.cell.Cell.{Cell}
use Rattle.rule_match.specs.declared.value.Column.{Column}
use Rattle.rule_match.specs.declared.row.Step.{Step}
use Rattle.rule_match.specs.declared.row.Step.TheVariants.{Passes, Captures as Catches, Guards}
use Rattle.rule_match.specs.declared.row.Caught.{Caught}
use Rattle.rule_match.specs.declared.row.Caught.TheVariants.{On, Escapes, Compares}
use Rattle.rule_match.specs.declared.row.Passage.{Passage}
use Rattle.rule_match.specs.declared.row.Passage.TheVariants.{Through, Escapes as EscapesAt, Compares as ComparesAt}
use Rattle.rule_match.specs.declared.row.NextGuard.{NextGuard}
use Rattle.rule_match.specs.Rows.{plain_cell}
use Rattle.rule_match.specs.Columns.{column, plain}
use Rattle.rule_match.specs.Standing.{passed, after_cell, cell_normal, cell_compared, guards_from, guard_compared}

-- the cell that a step stands for
abbrev pub step_cell : Step → PlainCell
step_cell Passes = blank
step_cell (Catches k xs) = cell (rule_variable_pattern k xs.now)
step_cell (Guards g) = cell (guard_pattern (stored_term g.now))

-- the guard of a cell, where it has one, by the comparison `C`
abbrev pub guard_by : (ℕ → Tree → Tree → Units Bool) → PlainCell → PlainColumn → ℕ → Captures → Units Bool
guard_by C (cell (guard_pattern g)) col n cs = C n col.term (shift 0 col.depth (filled cs 0 g))
guard_by C c col n cs = Some (true, n)

-- a row captures and compares by the step as by the cell
pub record ActsAs (c : Cell) (s : Step) : Type 0 where
  pub captures : (N : ℕ → Tree → Units Tree) (C : ℕ → Tree → Tree → Units Bool) (col : PlainColumn) (n : ℕ) (cs : Captures)
      → cell_captures N C (plain_cell c) col n cs ≡ cell_captures N C (step_cell s) col n cs
  pub escapes : (N : ℕ → Tree → Units Tree) (C : ℕ → Tree → Tree → Units Bool) (col : PlainColumn) (cs : Captures) (u : Tree) (n : ℕ)
      → cell_normal N C (plain_cell c) col cs u n ≡ cell_normal N C (step_cell s) col cs u n
  pub compares : (C : ℕ → Tree → Tree → Units Bool) (col : PlainColumn) (n : ℕ) (cs : Captures) → guard_by C (plain_cell c) col n cs ≡ guard_by C (step_cell s) col n cs

-- a part goes into the captures, or is to be compared with what the variable has
abbrev pub Records : ℕ → TermId → List (Option TermId) → List (Option TermId) → Caught → Type 0
Records k part old new On = (capture_id old k ≡ None) × (new ≡ slice_set old k (Some part))
Records k part old new (Compares a b) = (capture_id old k ≡ Some a) × (b ≡ part) × (new ≡ old)
Records k part old new Escapes = ⊥

-- what is to be compared is of a pool of so many nodes
abbrev pub AreCaught : ℕ → Caught → Type 0
AreCaught n On = Unit {0}
AreCaught n Escapes = Unit {0}
AreCaught n (Compares a b) = (a.0 < n) × (b.0 < n)

-- what a cell captures, by how it was gone through
abbrev pub cell_due : (ℕ → Tree → Units Tree) → (ℕ → Tree → Tree → Units Bool) → List Node → PlainCell → PlainColumn → Captures → Caught → ℕ → Units CellTrial
cell_due N C ns c col cs On n = Some (record { captures = Some cs; column = col }, n)
cell_due N C ns c col cs Escapes n = bind (N n col.term) (cell_normal N C c col cs)
cell_due N C ns c col cs (Compares a b) n = bind (C n (term ns a) (term ns b)) (cell_compared col cs)

abbrev pub CellSteps : Cell → Column → List Node → List (Option TermId) → List Node → List (Option TermId) → Caught → Type 0
CellSteps c col old cs new cs' caught =
    (N : ℕ → Tree → Units Tree) (C : ℕ → Tree → Tree → Units Bool) (n : ℕ)
    → cell_captures N C (plain_cell c) (column old col) n (captured_terms old cs) ≡ cell_due N C new (plain_cell c) (column new col) (captured_terms new cs') caught n

-- the column at a place
abbrev pub column_at : List PlainColumn → ℕ → PlainColumn
column_at cols i = get_or cols i (record { depth = 0; term = star })

abbrev pub ArePassed : ℕ → ℕ → ℕ → Passage → Type 0
ArePassed n width count Through = Unit {0}
ArePassed n width count (EscapesAt i) = (i < width) × (i < count)
ArePassed n width count (ComparesAt i a b) = (i < width) × (a.0 < n) × (b.0 < n)

-- what the cells of a row capture, by how they were gone through
abbrev pub row_due : (ℕ → Tree → Units Tree) → (ℕ → Tree → Tree → Units Bool) → List Node → List PlainCell → List PlainColumn → Captures → Passage → ℕ → Units RowTrial
row_due N C ns cells cols cs Through n = Some (record { captures = Some cs; columns = cols }, n)
row_due N C ns cells cols cs (EscapesAt i) n = bind (cell_due N C ns (cell_at cells i) (column_at cols i) cs Escapes n) (after_cell N C cells cols i)
row_due N C ns cells cols cs (ComparesAt i a b) n = bind (cell_due N C ns (cell_at cells i) (column_at cols i) cs (Compares a b) n) (after_cell N C cells cols i)

abbrev pub RowPasses : List Cell → List Column → ℕ → List Node → List (Option TermId) → List Node → List (Option TermId) → Passage → Type 0
RowPasses cells cols from old cs new cs' pass =
    (N : ℕ → Tree → Units Tree) (C : ℕ → Tree → Tree → Units Bool) (n : ℕ)
    → passed N C (map plain_cell cells) (plain old cols) from n (captured_terms old cs) ≡ row_due N C new (map plain_cell cells) (plain new cols) (captured_terms new cs') pass n

-- a guard under captures, at a depth
abbrev pub IsGuard : List Node → List Node × TermId → Captures → ℕ → TermId → Type 0
IsGuard ns guard cs depth t = (term ns t ≡ shift 0 depth (filled cs 0 (stored_term guard))) × (t.0 < length ns)

-- the guard of a cell under captures, where it has one
abbrev pub HasGuard : Cell → ℕ → List Node → Captures → Option TermId → Type 0
HasGuard c depth ns cs None = (C : ℕ → Tree → Tree → Units Bool) (t : Tree) (n : ℕ) → guard_by C (plain_cell c) (record { depth = depth; term = t }) n cs ≡ Some (true, n)
HasGuard c depth ns cs (Some g) =
    ((C : ℕ → Tree → Tree → Units Bool) (t : Tree) (n : ℕ) → guard_by C (plain_cell c) (record { depth = depth; term = t }) n cs ≡ C n t (term ns g)) × (g.0 < length ns)

-- whether the guards hold, by the next one
abbrev pub guards_due : (ℕ → Tree → Tree → Units Bool) → List Node → List PlainCell → List PlainColumn → Captures → Option NextGuard → ℕ → Units Bool
guards_due C ns cells cols cs None n = Some (true, n)
guards_due C ns cells cols cs (Some g) n = bind (C n (term ns g.part) (term ns g.guard)) (guard_compared C cells cols (g.at + 1) cs)

-- the next guard is a column's, and its terms are of the pool
abbrev pub IsNextGuard : ℕ → ℕ → Option NextGuard → Type 0
IsNextGuard n width None = Unit {0}
IsNextGuard n width (Some g) = (g.at < width) × (g.part.0 < n) × (g.guard.0 < n)

pub record GuardsPass (cells : List Cell) (cols : List Column) (from : ℕ) (cs : List (Option TermId)) (old new : List Node) (next : Option NextGuard) : Type 0 where
  pub is : (C : ℕ → Tree → Tree → Units Bool) (n : ℕ)
      → guards_from C (map plain_cell cells) (plain old cols) from n (captured_terms old cs) ≡ guards_due C new (map plain_cell cells) (plain new cols) (captured_terms new cs) next n
  pub within : IsNextGuard (length new) (length cols) next
