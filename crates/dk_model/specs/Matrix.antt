-- Trusted: the matrix of a selection, with a row for each rule and a column for each part of the arguments
-- (docs/evaluation.md).
use Rattle.std.specs.Prelude.{ℕ, zero, suc, ◌+◌, ◌-◌, Option, Some, None, Bool, true, false, ◌&&◌, List, [], ◌∷◌, ◌++◌, replicate, take, drop, eqb, nat_lt, if◌then◌else◌, length, map, max}
use Rattle.dk_model.specs.PlainTerms.{Tree, symbol, variable, bare}
use Rattle.dk_model.specs.PlainEntries.{Pattern, symbol_pattern, variable_pattern, abstraction_pattern, pattern_list, PlainRule}
use Rattle.dk_model.specs.Spines.{head, arguments}

-- what a row asks of a column: nothing, or that its term matches a pattern
pub data Cell : Type 0 where
  blank : Cell
  cell : Pattern → Cell

-- a part of the arguments: how many variables the pattern binds there, and the term
pub record Column : Type 0 where
  pub depth : ℕ
  pub term : Tree

-- a rule, with what it still asks of each column
pub record Row : Type 0 where
  pub cells : List Cell
  pub rule : PlainRule

-- the cells of a rule over `width` columns: its patterns, then blanks
abbrev pub first_cells : ℕ → PlainRule → List Cell
first_cells width rule = map cell rule.pats ++ replicate (width - length rule.pats) blank

-- the rows for `count` arguments: the rules that have at most so many patterns
abbrev pub rows_for : ℕ → ℕ → List PlainRule → List Row
rows_for count width [] = []
rows_for count width (rule ∷ rules) =
    if nat_lt count (length rule.pats) then rows_for count width rules else record { cells = first_cells width rule; rule = rule } ∷ rows_for count width rules

-- how many columns these rows need
abbrev pub width : ℕ → List PlainRule → ℕ
width count [] = 0
width count (rule ∷ rules) = if nat_lt count (length rule.pats) then width count rules else max (length rule.pats) (width count rules)

-- whether a cell asks for the head of its column's term
abbrev pub is_rigid : Cell → Bool
is_rigid (cell (symbol_pattern k ps)) = true
is_rigid (cell (variable_pattern k ps)) = true
is_rigid (cell (abstraction_pattern body)) = true
is_rigid c = false

-- the place of the first cell that does
abbrev pub rigid_at : List Cell → Option ℕ
rigid_at [] = None
rigid_at (c ∷ cells) = if is_rigid c then Some 0 else elim (rigid_at cells) [ None ↦ None | Some i ↦ Some (i + 1) ]

-- the columns that a value opens: the body of an abstraction, under one more variable, or the arguments
abbrev pub opened_columns : ℕ → Tree → List Column
opened_columns depth (bare body) = record { depth = depth + 1; term = body } ∷ []
opened_columns depth value = map (λ argument. record { depth = depth; term = argument }) (arguments value)

-- whether both are one symbol or one variable
abbrev pub heads_same : Tree → Tree → Bool
heads_same (symbol a) (symbol b) = eqb a b
heads_same (variable a) (variable b) = eqb a b
heads_same t u = false

-- whether the term is an abstraction without annotation
abbrev pub is_bare : Tree → Bool
is_bare (bare body) = true
is_bare t = false

-- the cells that a row has for the value of its column and for the `count` parts of that value; None where the row is dropped
abbrev pub refined_cells : Tree → ℕ → Cell → Option (List Cell)
refined_cells value count (cell (symbol_pattern k ps)) =
    if heads_same (head value) (symbol k) && eqb (length (arguments value)) (length (pattern_list ps)) then Some (blank ∷ map cell (pattern_list ps)) else None
refined_cells value count (cell (variable_pattern k ps)) =
    if heads_same (head value) (variable k) && eqb (length (arguments value)) (length (pattern_list ps)) then Some (blank ∷ map cell (pattern_list ps)) else None
refined_cells value count (cell (abstraction_pattern body)) = if is_bare value then Some (blank ∷ cell body ∷ []) else None
refined_cells value count c = Some (c ∷ replicate count blank)

-- the cell of a column, counted from 0
abbrev pub cell_at : List Cell → ℕ → Cell
cell_at [] i = blank
cell_at (c ∷ cells) zero = c
cell_at (c ∷ cells) (suc i) = cell_at cells i

-- the rows that are kept where column `i` has this value, of `count` parts
abbrev pub refined_rows : Tree → ℕ → ℕ → List Row → List Row
refined_rows value count i [] = []
refined_rows value count i (row ∷ rows) = elim (refined_cells value count (cell_at row.cells i)) [
  | None ↦ refined_rows value count i rows
  | Some cells ↦ record { cells = take i row.cells ++ cells ++ drop (i + 1) row.cells; rule = row.rule } ∷ refined_rows value count i rows
]
