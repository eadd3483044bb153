-- For proofs: where a selection stands while a row is tried: what is left of it (docs/evaluation.md).
use Rattle.std.specs.Prelude.{ℕ, ◌+◌, Option, Some, None, Bool, false, List, ◌∷◌, ◌++◌, slice_set, take, drop, length, if◌then◌else◌}
use Rattle.dk_model.specs.Trees.{Tree}
use Rattle.dk_model.specs.Signatures.{PlainSignature, rule_variable_pattern}
use Rattle.dk_model.specs.Units.{Units, bind}
use Rattle.dk_model.specs.Matrix.{Cell, cell, Column, Row, opened_columns, refined_rows}
use Rattle.dk_model.specs.Captures.{Captures, mentions_others}
use Rattle.dk_model.specs.Selection.{CellTrial, RowTrial, Selected, cell_captures, captures_of_row, guards_hold}
use Rattle.dk_model.specs.Evaluation.{comparison_of, normal_of}
use Rattle.dk_model.specs.Equations.{selection_of}

-- whether a part mentions a variable bound by the pattern that a rule variable may not capture
abbrev pub others_in : Cell → ℕ → Tree → Bool
others_in (cell (rule_variable_pattern k xs)) depth u = mentions_others 0 depth xs u
others_in c depth u = false

-- a trial with these columns before its own
abbrev pub put_before : List Column → Units RowTrial → Units RowTrial
put_before pre x = bind x (λ r j. Some (record { captures = r.captures; columns = pre ++ r.columns }, j))

-- what it captures once its part was compared with what the variable captured before
abbrev pub cell_compared : Column → Captures → Bool → ℕ → Units CellTrial
cell_compared col cs alike n = Some (record { captures = if alike then Some cs else None; column = col }, n)

module _ (N : ℕ → Tree → Units Tree) (C : ℕ → Tree → Tree → Units Bool) where
  -- what is captured from the cell at `i` on
  abbrev pub passed : List Cell → List Column → ℕ → ℕ → Captures → Units RowTrial
  passed cells cols i n cs = put_before (take i cols) (captures_of_row N C (drop i cells) (drop i cols) n cs)

  -- the same once the cell at `i` was tried
  abbrev pub after_cell : List Cell → List Column → ℕ → CellTrial → ℕ → Units RowTrial
  after_cell cells cols i o n = elim o.captures [
    | None ↦ Some (record { captures = None; columns = slice_set cols i o.column }, n)
    | Some cs ↦ passed cells (slice_set cols i o.column) (i + 1) n cs
  ]

  -- what a cell captures once the part has the normal form `u`
  abbrev pub cell_normal : Cell → Column → Captures → Tree → ℕ → Units CellTrial
  cell_normal c col cs u n =
      if others_in c col.depth u
      then Some (record { captures = None; column = record { depth = col.depth; term = u } }, n)
      else cell_captures N C c (record { depth = col.depth; term = u }) n cs

-- whether the guards hold from the cell at `i` on
abbrev pub guards_from : (ℕ → Tree → Tree → Units Bool) → List Cell → List Column → ℕ → ℕ → Captures → Units Bool
guards_from C cells cols i n cs = guards_hold C (drop i cells) (drop i cols) n cs

-- the same once the guard before was compared
abbrev pub guard_compared : (ℕ → Tree → Tree → Units Bool) → List Cell → List Column → ℕ → Captures → Bool → ℕ → Units Bool
guard_compared C cells cols i cs alike n = if alike then guards_from C cells cols i n cs else Some (false, n)

module _ (S : PlainSignature) (row : Row) (rest : List Row) where
  -- the row is taken, or the selection goes on with the rest
  abbrev pub decided : List Column → Captures → Bool → ℕ → Units (Option Selected)
  decided cols cs hold n = if hold then Some (Some (record { captures = cs; rule = row.rule }), n) else selection_of S n cols rest

  abbrev pub guarding : List Column → ℕ → Captures → ℕ → Units (Option Selected)
  guarding cols i cs n = bind (guards_from (comparison_of S) row.cells cols i n cs) (decided cols cs)

  -- its captures are there, or the row fails
  abbrev pub finished : RowTrial → ℕ → Units (Option Selected)
  finished trial n = elim trial.captures [ None ↦ selection_of S n trial.columns rest | Some cs ↦ guarding trial.columns 0 cs n ]

  abbrev pub capturing : List Column → ℕ → Captures → ℕ → Units (Option Selected)
  capturing cols i cs n = bind (passed (normal_of S) (comparison_of S) row.cells cols i n cs) finished

-- the selection goes on with the value `v` of column `i`
abbrev pub with_value : PlainSignature → List Column → List Row → ℕ → ℕ → Tree → ℕ → Units (Option Selected)
with_value S cols rows i depth v n =
    selection_of S n (take i cols ++ record { depth = depth; term = v } ∷ opened_columns depth v ++ drop (i + 1) cols) (refined_rows v (length (opened_columns depth v)) i rows)
