-- For proofs: what the parts of a value's ends give.
use Rattle.std.specs.Prelude.{ℕ, ◌≡◌, Some, List, ◌∷◌, ◌++◌, map, length}
use Rattle.dk_model.specs.PlainTerms.{Tree, bare}
use Rattle.dk_model.specs.Trees.{tree}
use Rattle.dk_model.specs.PlainEntries.{PlainSignature}
use Rattle.dk_model.specs.Spines.{head, arguments, applied}
use Rattle.dk_model.specs.Matrix.{Cell, Column, is_rigid, opened_columns, refined_cells}
use Rattle.typing_model.specs.Steps.{Part}
use Rattle.typing_model.proofs.Matrix.{Takes}
use Rattle.told_steps.specs.Parts.{LeadsTo}
use Rattle.told_steps.specs.Ends.{AreEnds, column_of, columns_of}
use Rattle.told_steps.specs.declared.told.Told.{Told}
use Rattle.told_steps.specs.declared.end.End.{End}
use Rattle.told_steps.specs.declared.fold.Cut.{Cut}
use Rattle.told_steps.specs.declared.fold.Opened.{Opened}

abbrev pub form_of : End → Tree
form_of e = tree e.told.form

abbrev pub column_at : ℕ → Tree → Column
column_at depth t = record { depth = depth; term = t }

-- a column at this depth for each term
abbrev pub columns_at : ℕ → List Tree → List Column
columns_at depth ts = map (column_at depth) ts

-- a value with other parts
abbrev pub rebuilt : Tree → List Tree → Tree
rebuilt (bare b) (c ∷ cs) = bare c
rebuilt t ts = applied (head t) ts

-- the term leads to its head applied to the ends of its arguments
abbrev pub SpineLeads : Tree → List End → Told → Type 0
SpineLeads t ends told = (S : PlainSignature) (depth : ℕ) → AreEnds S (columns_at depth (arguments t)) ends
    → LeadsTo S t told × (tree told.form ≡ applied (head t) (map form_of ends))

-- the value leads to the same with the ends of its parts
abbrev pub PartsLead : Tree → List End → Told → Type 0
PartsLead v ends told = (S : PlainSignature) (depth : ℕ) → AreEnds S (opened_columns depth v) ends
    → LeadsTo S v told × (tree told.form ≡ rebuilt v (map form_of ends))

-- the ends in front of a place, the one there, those of so many parts behind it, and the others
pub record IsCut (ends : List End) (at count : ℕ) (cut : Cut) : Type 0 where
  pub whole : ends ≡ cut.front ++ (cut.own ∷ (cut.parts ++ cut.behind))
  pub place : length cut.front ≡ at
  pub counted : length cut.parts ≡ count

-- a column leads to its end, and what a row takes from the value and its parts it takes from this end
abbrev pub FoldsColumn : Opened → End → List End → End → Type 0
FoldsColumn opened own inner end = (S : PlainSignature) (base : Column) (c : Cell) (new : List Cell)
    → base.depth ≡ opened.depth → LeadsTo S base.term opened.told → opened.rigid ≡ is_rigid c
    → refined_cells (tree opened.told.form) (length (opened_columns opened.depth (tree opened.told.form))) c ≡ Some new
    → AreEnds S (record { depth = opened.depth; term = tree opened.told.form } ∷ opened_columns opened.depth (tree opened.told.form)) (own ∷ inner)
    → (base.depth ≡ end.depth) × LeadsTo S base.term end.told
    × ((cells : List Cell) (cols : List Column) (parts : List Part) → Takes (new ++ cells) (columns_of (own ∷ inner) ++ cols) parts → Takes (c ∷ cells) (column_of end ∷ cols) parts)
