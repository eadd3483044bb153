-- For proofs: what a call answers where this is due, by the cases of its result. Want of memory says nothing.
use Rattle.std.specs.Prelude.{ℕ, suc, ◌≡◌, ◌+◌, ◌++◌, Option, Some, None, Bool, true, Result, Ok, Err, List, ◌∷◌, take, drop, length, slice_get}
use Rattle.dk_model.specs.Substitution.{shift}
use Rattle.dk_model.specs.Signatures.{PlainSignature, guard_pattern}
use Rattle.dk_model.specs.Units.{Units, bind}
use Rattle.dk_model.specs.Matrix.{Cell, Column, Row, cell, opened_columns, refined_rows}
use Rattle.dk_model.specs.Captures.{Captures, filled}
use Rattle.dk_model.specs.Selection.{Selected}
use Rattle.dk_model.specs.Evaluation.{whnf_of, comparison_of, columns, rows}
use Rattle.dk_model.specs.Equations.{selection_of, after_selection}
use Rattle.tree_evaluation.specs.Views.{Told, Tree, tree}
use Rattle.dk_model.specs.declared.stop.Stop.{Stop}
use Rattle.dk_model.specs.declared.stop.Stop.TheVariants.{Ended, NoMemory}

-- the answer as the view shows it, with the units left; where they don't suffice none is left
abbrev pub Answers : {A B : Type 0} → (A → B) → Units B → Result A Stop → ℕ → Type 0
Answers view due (Ok a) left = due ≡ Some (view a, left)
Answers view due (Err Ended) left = (due ≡ None) × (left ≡ 0)
Answers view due (Err NoMemory) left = Unit {0}

-- the term that was told
abbrev pub form_told : Told → Tree
form_told told = tree told.form

-- where the weak head form `due` of `t` leads: to that of another term, or `t` stands
abbrev pub Leads : PlainSignature → Tree → Units Tree → Result (Option Told) Stop → ℕ → Type 0
Leads S t due (Ok (Some next)) left = due ≡ whnf_of S left (form_told next)
Leads S t due (Ok None) left = due ≡ Some (t, left)
Leads S t due (Err Ended) left = (due ≡ None) × (left ≡ 0)
Leads S t due (Err NoMemory) left = Unit {0}

-- the weak head form of a term by a rule of the symbol at its head
abbrev pub by_selection : PlainSignature → ℕ → Tree → ℕ → Units Tree
by_selection S k t n = bind (selection_of S n (columns S k t) (rows S k t)) (after_selection S t)

-- a unit is taken, or there is none
abbrev pub Spends : ℕ → Result (Unit {0}) Stop → ℕ → Type 0
Spends old (Ok u) new = old ≡ suc new
Spends old (Err Ended) new = (old ≡ 0) × (new ≡ 0)
Spends old (Err NoMemory) new = Unit {0}

-- the selection that goes on with a value in place of its column
abbrev pub with_value : PlainSignature → ℕ → List Row → List Column → Column → Tree → ℕ → Units (Option Selected)
with_value S i rows columns column value n = let new : List Column = opened_columns column.depth value in
    selection_of S n (take i columns ++ record { depth = column.depth; term = value } ∷ new ++ drop (i + 1) columns) (refined_rows value (length new) i rows)

-- the selection by the value of the column at a place
abbrev pub by_value : PlainSignature → ℕ → List Row → List Column → ℕ → Units (Option Selected)
by_value S i rows columns n = elim (slice_get columns i) [
  | None ↦ Some (None, n)
  | Some column ↦ bind (whnf_of S n column.term) (with_value S i rows columns column)
]

-- the guard of a cell, where it has one
abbrev pub guard_of : PlainSignature → Cell → Column → ℕ → Captures → Units Bool
guard_of S (cell (guard_pattern guard)) column n captures = comparison_of S n column.term (shift 0 column.depth (filled captures 0 guard))
guard_of S c column n captures = Some (true, n)
