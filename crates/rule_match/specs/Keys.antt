-- For proofs: the heads that patterns tell apart, and the rows that are kept where a column's value has such a head
-- (docs/evaluation.md).
use Rattle.std.specs.Prelude.{ℕ, ◌+◌, Bool, true, false, ◌&&◌, List, [], ◌∷◌, ◌++◌, take, drop, replicate, eqb, nat_lt, length, map, if◌then◌else◌}
use Rattle.dk_model.specs.Trees.{Tree, symbol, variable, bare}
use Rattle.dk_model.specs.Signatures.{symbol_pattern, variable_pattern, abstraction_pattern, pattern_list}
use Rattle.dk_model.specs.Spines.{head, arguments}
use Rattle.dk_model.specs.Matrix.{Cell, blank, cell, Row, cell_at}
use Rattle.rule_match.specs.declared.key.Key.{Key}
use Rattle.rule_match.specs.declared.key.Key.TheVariants.{Symbol, Variable, Abstraction, Other}

abbrev pub key_at : Tree → ℕ → Key
key_at (symbol k) n = Symbol k n
key_at (variable k) n = Variable k n
key_at t n = Other n

-- the head of a value, with the number of its arguments
abbrev pub key_of : Tree → Key
key_of (bare b) = Abstraction
key_of t = key_at (head t) (length (arguments t))

-- the order of heads: by their form, then by their number, then by how many arguments they have
abbrev pub form : Key → ℕ
form (Symbol k n) = 0
form (Variable k n) = 1
form Abstraction = 2
form (Other n) = 3

abbrev pub number_of : Key → ℕ
number_of (Symbol k n) = k
number_of (Variable k n) = k
number_of Abstraction = 0
number_of (Other n) = 0

abbrev pub count_of : Key → ℕ
count_of (Symbol k n) = n
count_of (Variable k n) = n
count_of Abstraction = 0
count_of (Other n) = n

abbrev pub comes_before : Key → Key → Bool
comes_before a b =
    if eqb (form a) (form b) then (if eqb (number_of a) (number_of b) then nat_lt (count_of a) (count_of b) else nat_lt (number_of a) (number_of b)) else nat_lt (form a) (form b)

-- how many columns a value with this head opens
abbrev pub parts : Key → ℕ
parts (Symbol k n) = n
parts (Variable k n) = n
parts Abstraction = 1
parts (Other n) = n

-- whether it is this symbol, or this variable, with so many arguments, or an abstraction
abbrev pub has_symbol : Key → ℕ → ℕ → Bool
has_symbol (Symbol j n) k m = eqb j k && eqb n m
has_symbol key k m = false

abbrev pub has_variable : Key → ℕ → ℕ → Bool
has_variable (Variable j n) k m = eqb j k && eqb n m
has_variable key k m = false

abbrev pub has_abstraction : Key → Bool
has_abstraction Abstraction = true
has_abstraction key = false

-- whether a row that has this cell is kept where the value has this head
abbrev pub is_kept : Key → Cell → Bool
is_kept key (cell (symbol_pattern k ps)) = has_symbol key k (length (pattern_list ps))
is_kept key (cell (variable_pattern k ps)) = has_variable key k (length (pattern_list ps))
is_kept key (cell (abstraction_pattern p)) = has_abstraction key
is_kept key c = true

-- the cells that a kept row then has for the value and its `n` parts
abbrev pub cells_after : ℕ → Cell → List Cell
cells_after n (cell (symbol_pattern k ps)) = blank ∷ map cell (pattern_list ps)
cells_after n (cell (variable_pattern k ps)) = blank ∷ map cell (pattern_list ps)
cells_after n (cell (abstraction_pattern p)) = blank ∷ cell p ∷ []
cells_after n c = c ∷ replicate n blank

-- the cells of a kept row, once the column at `i` has a value of `n` parts
abbrev pub cells_when_kept : ℕ → ℕ → List Cell → List Cell
cells_when_kept n i cs = take i cs ++ cells_after n (cell_at cs i) ++ drop (i + 1) cs

-- the rows that are kept where the value of column `i` has this head
abbrev pub rows_by : Key → ℕ → List Row → List Row
rows_by key i [] = []
rows_by key i (row ∷ rows) =
    if is_kept key (cell_at row.cells i) then record { cells = cells_when_kept (parts key) i row.cells; rule = row.rule } ∷ rows_by key i rows else rows_by key i rows
