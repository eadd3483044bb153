-- The rows that are kept for a value are those for its head.
use Rattle.std.proofs.Common.{List, [], ◌∷◌, ◌++◌, ◌≡◌, ◌+◌, ℕ, Option, Some, None, Bool, true, false, refl, ap, ◌∙◌, map, take, drop, length}
use Rattle.std.proofs.lemmas.List.{length-map}
use Rattle.std.specs.Prelude.{◌&&◌, eqb, if◌then◌else◌}
use Rattle.dk_model.specs.Trees.{Tree, star, kind, symbol, variable, rule_variable, apply, bare, annotated, product}
use Rattle.dk_model.specs.Signatures.{rule_variable_pattern, wildcard_pattern, guard_pattern, symbol_pattern, variable_pattern, abstraction_pattern, pattern_list}
use Rattle.dk_model.specs.Spines.{head, arguments}
use Rattle.dk_model.specs.Matrix.{Cell, blank, cell, Column, Row, heads_same, is_bare, cell_at, refined_cells, refined_rows, opened_columns}
use Rattle.rule_match.specs.Keys.{key_at, key_of, parts, has_symbol, has_variable, has_abstraction, is_kept, cells_after, cells_when_kept, rows_by}

symbol_at : (h : Tree) (n k m : ℕ) → (heads_same h (symbol k) && eqb n m) ≡ has_symbol (key_at h n) k m
symbol_at star n k m = refl
symbol_at kind n k m = refl
symbol_at (symbol j) n k m = refl
symbol_at (variable j) n k m = refl
symbol_at (rule_variable j) n k m = refl
symbol_at (apply f a) n k m = refl
symbol_at (bare b) n k m = refl
symbol_at (annotated x b) n k m = refl
symbol_at (product a b) n k m = refl

variable_at : (h : Tree) (n k m : ℕ) → (heads_same h (variable k) && eqb n m) ≡ has_variable (key_at h n) k m
variable_at star n k m = refl
variable_at kind n k m = refl
variable_at (symbol j) n k m = refl
variable_at (variable j) n k m = refl
variable_at (rule_variable j) n k m = refl
variable_at (apply f a) n k m = refl
variable_at (bare b) n k m = refl
variable_at (annotated x b) n k m = refl
variable_at (product a b) n k m = refl

no_abstraction : (h : Tree) (n : ℕ) → false ≡ has_abstraction (key_at h n)
no_abstraction star n = refl
no_abstraction kind n = refl
no_abstraction (symbol j) n = refl
no_abstraction (variable j) n = refl
no_abstraction (rule_variable j) n = refl
no_abstraction (apply f a) n = refl
no_abstraction (bare b) n = refl
no_abstraction (annotated x b) n = refl
no_abstraction (product a b) n = refl

parts_at : (h : Tree) (n : ℕ) → n ≡ parts (key_at h n)
parts_at star n = refl
parts_at kind n = refl
parts_at (symbol j) n = refl
parts_at (variable j) n = refl
parts_at (rule_variable j) n = refl
parts_at (apply f a) n = refl
parts_at (bare b) n = refl
parts_at (annotated x b) n = refl
parts_at (product a b) n = refl

symbol_of : (v : Tree) (k m : ℕ) → (heads_same (head v) (symbol k) && eqb (length (arguments v)) m) ≡ has_symbol (key_of v) k m
symbol_of star k m = refl
symbol_of kind k m = refl
symbol_of (symbol j) k m = refl
symbol_of (variable j) k m = refl
symbol_of (rule_variable j) k m = refl
symbol_of (apply f a) k m = symbol_at (head f) (length (arguments (apply f a))) k m
symbol_of (bare b) k m = refl
symbol_of (annotated x b) k m = refl
symbol_of (product a b) k m = refl

variable_of : (v : Tree) (k m : ℕ) → (heads_same (head v) (variable k) && eqb (length (arguments v)) m) ≡ has_variable (key_of v) k m
variable_of star k m = refl
variable_of kind k m = refl
variable_of (symbol j) k m = refl
variable_of (variable j) k m = refl
variable_of (rule_variable j) k m = refl
variable_of (apply f a) k m = variable_at (head f) (length (arguments (apply f a))) k m
variable_of (bare b) k m = refl
variable_of (annotated x b) k m = refl
variable_of (product a b) k m = refl

abstraction_of : (v : Tree) → is_bare v ≡ has_abstraction (key_of v)
abstraction_of star = refl
abstraction_of kind = refl
abstraction_of (symbol j) = refl
abstraction_of (variable j) = refl
abstraction_of (rule_variable j) = refl
abstraction_of (apply f a) = no_abstraction (head f) (length (arguments (apply f a)))
abstraction_of (bare b) = refl
abstraction_of (annotated x b) = refl
abstraction_of (product a b) = refl

abbrev column_of : ℕ → Tree → Column
column_of depth a = record { depth = depth; term = a }

opened_count : (depth : ℕ) (v : Tree) → length (opened_columns depth v) ≡ parts (key_of v)
opened_count depth star = refl
opened_count depth kind = refl
opened_count depth (symbol j) = refl
opened_count depth (variable j) = refl
opened_count depth (rule_variable j) = refl
opened_count depth (apply f a) = length-map (arguments (apply f a)) (column_of depth) ∙ parts_at (head f) (length (arguments (apply f a)))
opened_count depth (bare b) = refl
opened_count depth (annotated x b) = refl
opened_count depth (product a b) = refl

refined_by_key : (v : Tree) (n : ℕ) (c : Cell) → refined_cells v n c ≡ (if is_kept (key_of v) c then Some (cells_after n c) else None)
refined_by_key v n blank = refl
refined_by_key v n (cell (rule_variable_pattern k xs)) = refl
refined_by_key v n (cell wildcard_pattern) = refl
refined_by_key v n (cell (guard_pattern g)) = refl
refined_by_key v n (cell (symbol_pattern k ps)) = ap (λ (b : Bool). if b then Some (blank ∷ map cell (pattern_list ps)) else None) (symbol_of v k (length (pattern_list ps)))
refined_by_key v n (cell (variable_pattern k ps)) = ap (λ (b : Bool). if b then Some (blank ∷ map cell (pattern_list ps)) else None) (variable_of v k (length (pattern_list ps)))
refined_by_key v n (cell (abstraction_pattern p)) = ap (λ (b : Bool). if b then Some (blank ∷ cell p ∷ []) else None) (abstraction_of v)

module _ (i : ℕ) (r : Row) (rows : List Row) where
  abbrev with_cells : Option (List Cell) → List Row
  with_cells o = elim o [ None ↦ rows | Some cs ↦ record { cells = take i r.cells ++ cs ++ drop (i + 1) r.cells; rule = r.rule } ∷ rows ]

  by_test : (b : Bool) (cs : List Cell) → with_cells (if b then Some cs else None) ≡ (if b then record { cells = take i r.cells ++ cs ++ drop (i + 1) r.cells; rule = r.rule } ∷ rows else rows)
  by_test true cs = refl
  by_test false cs = refl

rows_of_value : (v : Tree) (i : ℕ) (rows : List Row) → refined_rows v (parts (key_of v)) i rows ≡ rows_by (key_of v) i rows
rows_of_value v i [] = refl
rows_of_value v i (r ∷ rows) =
    ap (with_cells i r (refined_rows v (parts (key_of v)) i rows)) (refined_by_key v (parts (key_of v)) (cell_at r.cells i))
    ∙ by_test i r (refined_rows v (parts (key_of v)) i rows) (is_kept (key_of v) (cell_at r.cells i)) (cells_after (parts (key_of v)) (cell_at r.cells i))
    ∙ ap (λ (l : List Row). if is_kept (key_of v) (cell_at r.cells i) then record { cells = cells_when_kept (parts (key_of v)) i r.cells; rule = r.rule } ∷ l else l) (rows_of_value v i rows)

pub rows_by_head : (v : Tree) (depth i : ℕ) (rows : List Row) → refined_rows v (length (opened_columns depth v)) i rows ≡ rows_by (key_of v) i rows
rows_by_head v depth i rows = ap (λ (n : ℕ). refined_rows v n i rows) (opened_count depth v) ∙ rows_of_value v i rows
