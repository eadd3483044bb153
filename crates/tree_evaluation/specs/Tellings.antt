-- For proofs: what is told along a selection: what its rows come from, where its columns lead, and what cells, rows and
-- guards take from their ends.
use Rattle.std.specs.Prelude.{ℕ, suc, ◌≡◌, ◌≤◌, Some, List, [], ◌∷◌, map, length, slice_get, ◌<◌, Option, None, IfSome, true, false, ◌++◌, slice_set}
use Rattle.std.specs.List.{All}
use Rattle.dk_model.specs.PlainEntries.{PlainSignature}
use Rattle.dk_model.specs.Spines.{arguments, head_symbol}
use Rattle.dk_model.specs.SymbolRules.{rules_of}
use Rattle.dk_model.specs.Matrix.{first_cells, Cell, is_rigid, rigid_at, opened_columns, Column as PlainColumn}
use Rattle.dk_model.specs.Evaluation.{rewritten}
use Rattle.certificate_items.specs.Views.{plain_joins}
use Rattle.tree_evaluation.specs.Views.{column_of, columns_of, SymbolRule, Told, End, Row, Selected, plain_cell, plain_selected, rule, row, captures_of, refined_row, Term, Join, Captured, PartTrial, CellTrial, RowTrial, Tree, tree}
pub use Rattle.told_steps.specs.Parts.{LeadsTo, AlwaysLeadsTo}
pub use Rattle.told_steps.specs.Ends.{AreEnds, TakesEnds, first_columns, opened_bases}
use Rattle.dk_model.specs.Captures.{Captures, capture_at, mentions_others}
use Rattle.typing_model.specs.Steps.{Part, variable_part, capture}
use Rattle.typing_model.proofs.Matrix.{CellTakes, Takes}
use Rattle.typing_model.proofs.Loose.{parts_at, parts_of}
use Rattle.checked_steps.specs.Matching.{laters, guards}
use Rattle.checked_steps.specs.Taken.{all_joined}

-- ---- rows, and what they come from

-- a rule of at most `count` patterns as a row, with its place
pub record IsRowOf (wide count from : ℕ) (own : SymbolRule) (r : Row) : Type 0 where
  pub place : r.from ≡ from
  pub same_rule : r.rule ≡ own
  pub cells : map plain_cell r.cells.items ≡ first_cells wide (rule r.rule)
  pub few : length (rule r.rule).pats ≤ count

-- the row of a rule of at most `count` patterns, from its place among these
pub record IsFirstRow (wide count : ℕ) (rules : List SymbolRule) (r : Row) : Type 0 where
  pub numbered : slice_get rules r.from ≡ Some r.rule
  pub cells : map plain_cell r.cells.items ≡ first_cells wide (rule r.rule)
  pub few : length (rule r.rule).pats ≤ count

abbrev pub AreFirstRows : ℕ → ℕ → List SymbolRule → List Row → Type 0
AreFirstRows wide count rules rows = All (IsFirstRow wide count rules) rows

-- each row is a refined one, from the place of the row that it was
pub record IsRefinedFrom (value : Tree) (count at : ℕ) (rows : List Row) (r : Row) : Type 0 where
  pub before : Row
  pub stands : slice_get rows r.from ≡ Some before
  pub refined : refined_row value count at (row before) ≡ Some (row r)
  pub same_rule : before.rule ≡ r.rule

abbrev pub AreRefined : Tree → ℕ → ℕ → List Row → List Row → Type 0
AreRefined value count at rows kept = All (IsRefinedFrom value count at rows) kept

-- ---- columns

-- columns that no step was taken in
abbrev pub AreUnmoved : List End → Type 0
AreUnmoved [] = Unit {0}
AreUnmoved (e ∷ es) = AlwaysLeadsTo (tree e.told.form) e.told × AreUnmoved es

-- ---- selections

-- the row at the place takes the ends, from wherever the columns began
pub record SelectedRow (S : PlainSignature) (rows : List Row) (bases : List PlainColumn) (it : Selected) : Type 0 where
  pub own : Row
  pub stands : slice_get rows it.place ≡ Some own
  pub same_rule : own.rule ≡ it.rule
  pub takes : TakesEnds S bases (map plain_cell own.cells.items) it.ends (captures_of it.captures) (plain_joins it.joins)

abbrev pub Selects : PlainSignature → List Row → List End → Option Selected → Type 0
Selects S rows columns o = (bases : List PlainColumn) → AreEnds S bases columns → IfSome o (SelectedRow S rows bases)

-- the same row behind a first one
abbrev pub next_place : Selected → Selected
next_place it = record { captures = it.captures; rule = it.rule; place = suc it.place; ends = it.ends; joins = it.joins }

-- the row of a rule of the symbol, by its number, over columns and arguments that are enough for it
pub record IsRuleRow (S : PlainSignature) (k : ℕ) (t : Tree) (wide : ℕ) (r : Row) : Type 0 where
  pub numbered : slice_get (rules_of S k) r.from ≡ Some (rule r.rule)
  pub cells : map plain_cell r.cells.items ≡ first_cells wide (rule r.rule)
  pub enough_columns : length (rule r.rule).pats ≤ wide
  pub enough_arguments : length (rule r.rule).pats ≤ length (arguments t)

-- the columns are ends of a term's first columns, and the rows are those of its symbol's rules
pub record Begins (S : PlainSignature) (k : ℕ) (t : Tree) (columns : List End) (rows : List Row) : Type 0 where
  pub wide : ℕ
  pub ends : AreEnds S (first_columns wide t) columns
  pub first : All (IsRuleRow S k t wide) rows

-- where the selection was among these rows, the term leads to what the rule that is taken makes of it
abbrev pub Rewrites : Tree → List Row → Selected → Told → Type 0
Rewrites t rows it told = (S : PlainSignature) (k : ℕ) (columns : List End) → head_symbol t ≡ Some k → Begins S k t columns rows → Selects S rows columns (Some it)
    → LeadsTo S t told × (tree told.form ≡ rewritten t (plain_selected it))

-- ---- columns that are looked at

-- from wherever these led to the first, they lead to the second
abbrev pub StillLead : PlainSignature → List End → List End → Type 0
StillLead S before after = (bases : List PlainColumn) → AreEnds S bases before → AreEnds S bases after

abbrev pub StillLeads : PlainSignature → End → End → Type 0
StillLeads S before after = StillLead S (before ∷ []) (after ∷ [])

-- ---- captures

-- what is captured is the capture of the parts so far, whose later occurrences are joined
pub record HasParts (S : PlainSignature) (parts : List Part) (captures : Captures) (joins : List Join) : Type 0 where
  pub agrees : (j : ℕ) → capture_at captures j ≡ capture parts j
  pub joined : all_joined S (plain_joins joins) (laters [] parts) ≡ true

-- behind any parts that were captured, these are captured
abbrev pub CapturesMore : PlainSignature → List Part → Captured → Captured → Type 0
CapturesMore S more before after =
    (parts : List Part) → HasParts S parts (captures_of before.captures) before.joins → HasParts S (parts ++ more) (captures_of after.captures) after.joins

-- what was told before a part was looked at leads to it still, and where it fits it mentions just what it may
abbrev pub PartTold : PlainSignature → ℕ → List ℕ → Told → PartTrial → Type 0
PartTold S depth xs before trial =
    ((t : Tree) → LeadsTo S t before → LeadsTo S t trial.told) × (trial.fits ≡ true → mentions_others 0 depth xs (tree trial.told.form) ≡ false)

abbrev pub RecordTold : PlainSignature → Captured → ℕ → Tree → Captured → Type 0
RecordTold S before k t after = CapturesMore S (variable_part k t ∷ []) before after

-- the part of a variable that captured nothing before
abbrev pub CapturesNew : Captured → ℕ → Term → Captured → Type 0
CapturesNew before k part after =
    (after.captures.items ≡ slice_set before.captures.items k (Some part)) × (after.joins ≡ before.joins) × (k < length before.captures.items)

-- a cell that asks for no head takes its part, which is captured
abbrev pub CellCaptures : PlainSignature → Cell → PlainColumn → Captured → Captured → Type 0
CellCaptures S c column before after = CellTakes c column (parts_at c column) × CapturesMore S (parts_at c column) before after

-- and its column leads on
abbrev pub CellTold : PlainSignature → Cell → End → Captured → CellTrial → Type 0
CellTold S c column captured trial = is_rigid c ≡ false → StillLeads S column trial.column × IfSome trial.captured (CellCaptures S c (column_of trial.column) captured)

-- a row that asks for no head
abbrev pub RowCaptures : PlainSignature → List Cell → List PlainColumn → Captured → Captured → Type 0
RowCaptures S cells columns before after = Takes cells columns (parts_of cells columns) × CapturesMore S (parts_of cells columns) before after

abbrev pub RowTold : PlainSignature → List Cell → List End → Captured → RowTrial → Type 0
RowTold S cells columns captured trial = rigid_at cells ≡ None → StillLead S columns trial.columns × IfSome trial.captured (RowCaptures S cells (columns_of trial.columns) captured)

-- the guard of a cell, where it has one, is joined
abbrev pub GuardTold : PlainSignature → Cell → End → Captures → List Join → Type 0
GuardTold S c column captures joins =
    (s : ℕ → Option Tree) → ((j : ℕ) → capture_at captures j ≡ s j) → all_joined S (plain_joins joins) (guards s (parts_at c (column_of column))) ≡ true

-- and those of a row
abbrev pub GuardsTold : PlainSignature → List Cell → List End → Captures → List Join → Type 0
GuardsTold S cells columns captures joins =
    (s : ℕ → Option Tree) → ((j : ℕ) → capture_at captures j ≡ s j) → all_joined S (plain_joins joins) (guards s (parts_of cells (columns_of columns))) ≡ true

-- a row that is tried: its columns lead on, and where it is taken it takes their ends
abbrev pub TakesAll : PlainSignature → List PlainColumn → List Cell → List End → Captured → Type 0
TakesAll S bases cells ends captured = TakesEnds S bases cells ends (captures_of captured.captures) (plain_joins captured.joins)

abbrev pub RowTaken : PlainSignature → List Cell → List End → RowTrial → Type 0
RowTaken S cells columns trial = rigid_at cells ≡ None → (bases : List PlainColumn) → AreEnds S bases columns
    → AreEnds S bases trial.columns × IfSome trial.captured (TakesAll S bases cells trial.columns)

-- ---- the value of a column

-- a selection among the rows that are kept for the value of a column is one among those before
abbrev pub Folded : ℕ → ℕ → Told → List Row → List Row → Option Selected → Option Selected → Type 0
Folded at depth told rows kept deeper it = (S : PlainSignature) (bases : List PlainColumn) (base : PlainColumn)
    → slice_get bases at ≡ Some base → base.depth ≡ depth → LeadsTo S base.term told
    → AreRefined (tree told.form) (length (opened_columns depth (tree told.form))) at rows kept
    → IfSome deeper (SelectedRow S kept (opened_bases at depth (tree told.form) bases)) → IfSome it (SelectedRow S rows bases)
