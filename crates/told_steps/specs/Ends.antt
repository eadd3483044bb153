-- For callers: how the columns of a selection ended, and what a row that is taken has from them.
use Rattle.std.specs.Prelude.{ℕ, ◌+◌, ◌≡◌, ◌≤◌, Some, true, List, [], ◌∷◌, ◌++◌, map, take, drop, length, slice_get}
use Rattle.dk_model.specs.PlainTerms.{Tree}
use Rattle.dk_model.specs.Trees.{tree}
use Rattle.dk_model.specs.PlainEntries.{PlainRule, PlainSignature}
use Rattle.dk_model.specs.Spines.{arguments, head_symbol}
use Rattle.dk_model.specs.SymbolRules.{rules_of}
use Rattle.dk_model.specs.Matrix.{Cell, Column, first_cells, is_rigid, opened_columns, refined_cells, cell_at}
use Rattle.dk_model.specs.Captures.{Captures, capture_at, filled}
use Rattle.dk_model.specs.Evaluation.{rewritten}
use Rattle.typing_model.specs.Steps.{Part, capture}
use Rattle.typing_model.proofs.Matrix.{Takes}
use Rattle.checked_steps.specs.Matching.{to_join}
use Rattle.checked_steps.specs.Items.{ItemJoins}
use Rattle.checked_steps.specs.Taken.{all_joined}
use Rattle.certificate_items.specs.Views.{plain_joins}
use Rattle.told_steps.specs.Parts.{LeadsTo}
use Rattle.told_steps.specs.declared.told.Told.{Told}
use Rattle.told_steps.specs.declared.end.End.{End}
use Rattle.told_steps.specs.declared.fold.Opened.{Opened}
use Rattle.told_steps.specs.declared.firing.TakenRule.{TakenRule}

-- a column as it ended
abbrev pub column_of : End → Column
column_of e = record { depth = e.depth; term = tree e.told.form }

abbrev pub columns_of : List End → List Column
columns_of es = map column_of es

-- each column, as it began, leads to its end
abbrev pub AreEnds : PlainSignature → List Column → List End → Type 0
AreEnds S [] [] = Unit {0}
AreEnds S (c ∷ cs) (e ∷ es) = (c.depth ≡ e.depth) × LeadsTo S c.term e.told × AreEnds S cs es
AreEnds S cs es = ⊥

-- the cells take parts from the ends of these columns, which give the captures, and whose conditions are joined
pub record TakesEnds (S : PlainSignature) (bases : List Column) (cells : List Cell) (ends : List End) (captures : Captures) (joins : ItemJoins) : Type 0 where
  pub parts : List Part
  pub leads : AreEnds S bases ends
  pub takes : Takes cells (columns_of ends) parts
  pub captured : (j : ℕ) → capture_at captures j ≡ capture parts j
  pub joined : all_joined S joins (to_join parts) ≡ true

-- these columns with the value in the place of one, and behind it the columns that the value opens
abbrev pub opened_bases : ℕ → ℕ → Tree → List Column → List Column
opened_bases at depth value bases = take at bases ++ record { depth = depth; term = value } ∷ opened_columns depth value ++ drop (at + 1) bases

-- the cells of a row for these columns, where it has `new` for the value and its parts
abbrev pub opened_cells : ℕ → List Cell → List Cell → List Cell
opened_cells at new cells = take at cells ++ new ++ drop (at + 1) cells

-- the column at the place leads to the value that was told
pub record IsOpened (S : PlainSignature) (opened : Opened) (bases : List Column) : Type 0 where
  pub base : Column
  pub stands : slice_get bases opened.at ≡ Some base
  pub same_depth : base.depth ≡ opened.depth
  pub leads : LeadsTo S base.term opened.told

-- what a row has for the value and its parts, where its cell there was rigid or not, as is said
pub record IsRefined (opened : Opened) (cells new : List Cell) : Type 0 where
  pub rigid : opened.rigid ≡ is_rigid (cell_at cells opened.at)
  pub refined : refined_cells (tree opened.told.form) (length (opened_columns opened.depth (tree opened.told.form))) (cell_at cells opened.at) ≡ Some new

-- what a row takes from the ends of a level with a value in the place of a column, it takes from these ends of the level before
abbrev pub FoldsBack : Opened → List End → List End → Type 0
FoldsBack opened deeper ends = (S : PlainSignature) (bases : List Column) (cells new : List Cell) (captures : Captures) (joins : ItemJoins)
    → IsOpened S opened bases → IsRefined opened cells new
    → TakesEnds S (opened_bases opened.at opened.depth (tree opened.told.form) bases) (opened_cells opened.at new cells) deeper captures joins
    → TakesEnds S bases cells ends captures joins

-- the first columns of a term
abbrev pub first_columns : ℕ → Tree → List Column
first_columns width t = map (λ argument. record { depth = 0; term = argument }) (take width (arguments t))

-- the rule of the symbol at the head that is meant, over so many columns as are enough for it
pub record IsTakenRule (S : PlainSignature) (t : Tree) (taken : TakenRule) (width : ℕ) (rule : PlainRule) : Type 0 where
  pub head : ℕ
  pub symbol : head_symbol t ≡ Some head
  pub numbered : slice_get (rules_of S head) taken.number ≡ Some rule
  pub patterns : length rule.pats ≡ taken.patterns
  pub enough_columns : taken.patterns ≤ width
  pub enough_arguments : taken.patterns ≤ length (arguments t)

-- where the rule takes the ends of the term's first columns, this leads from the term to the rule's right side, applied to
-- the arguments that are left
abbrev pub Fires : Tree → TakenRule → List End → Told → Type 0
Fires t taken ends told = (S : PlainSignature) (width : ℕ) (rule : PlainRule) (captures : Captures)
    → IsTakenRule S t taken width rule
    → TakesEnds S (first_columns width t) (first_cells width rule) ends captures (plain_joins taken.joins)
    → tree taken.right ≡ filled captures 0 rule.right
    → LeadsTo S t told × (tree told.form ≡ rewritten t (record { captures = captures; rule = rule }))
