-- The cells of a row, before and after a column has a value.
use Rattle.std.proofs.Common.{List, [], ◌∷◌, ◌++◌, ◌≡◌, ◌+◌, ◌<◌, ◌≤◌, ℕ, zero, suc, Option, Some, None, Bool, true, false, map, take, drop, get_or, append_assoc, refl, ap, ◌∙◌, sym as flip, arith}
use Rattle.std.proofs.lemmas.List.{map-append, length-map, take-map, drop-map, drop_more}
use Rattle.std.specs.Prelude.{length, if◌then◌else◌}
use Rattle.dk_model.specs.Signatures.{Pattern, Patterns, pattern_list, patterns_by, PlainRule}
use Rattle.dk_model.specs.Matrix.{blank, cell, cell_at, is_rigid, rigid_at}
use Rattle.dk_model.specs.Matrix.{Cell as PlainCell, Row as PlainRow}
use Rattle.dk_model.specs.declared.signature.Pat.{Pat, Row_of-Pat, end_of-Pat, more_of-Pat, items-the_row-Pat}
use Rattle.dk_model.specs.declared.signature.Pat.TheVariants.{Sym, Var}
use Rattle.dk_model.specs.declared.signature.Pat.TheBlock.{hidden-the_row-Pat-0, items_hidden-the_row-Pat-0}
use Rattle.shared_term.specs.Storage.{stored_term}
use Rattle.shared_term.specs.declared.stored.Stored.{Stored}
use Rattle.rule_match.specs.declared.key.Key.{Key}
use Rattle.rule_match.specs.declared.cell.Cell.{Cell}
use Rattle.rule_match.specs.declared.cell.Cell.TheVariants.{Blank}
use Rattle.rule_match.specs.declared.cell.Row.{Row}
use Rattle.rule_match.specs.Rows.{stored_pattern, pattern_cell, plain_cell, row, rule_at}
use Rattle.rule_match.specs.Keys.{is_kept, has_symbol, has_variable, cells_after, cells_when_kept, parts, rows_by}

-- the patterns below a symbol

abbrev stored_patterns : {m : _} → Row_of-Pat Stored m → Patterns
stored_patterns = patterns_by stored_term

pub each_cell : (ps : List (Pat Stored)) → map cell (map stored_pattern ps) ≡ map pattern_cell ps
each_cell [] = refl
each_cell (p ∷ ps) = ap (λ (l : List PlainCell). pattern_cell p ∷ l) (each_cell ps)

row_items : (n : _) (r : Row_of-Pat Stored n) → pattern_list (stored_patterns r) ≡ map stored_pattern (items-the_row-Pat Stored n r)
row_items n end_of-Pat = refl
row_items n (more_of-Pat p r) = ap (λ (l : List Pattern). stored_pattern p ∷ l) (row_items _ r)

listed : (ps : List (Pat Stored)) → pattern_list (stored_patterns (hidden-the_row-Pat-0 Stored ps)) ≡ map stored_pattern ps
listed ps = row_items _ (hidden-the_row-Pat-0 Stored ps) ∙ ap (map stored_pattern) (items_hidden-the_row-Pat-0 Stored ps)

listed_cells : (ps : List (Pat Stored)) → map cell (pattern_list (stored_patterns (hidden-the_row-Pat-0 Stored ps))) ≡ map pattern_cell ps
listed_cells ps = ap (map cell) (listed ps) ∙ each_cell ps

-- what a head takes

same_count : (ps : List (Pat Stored)) → length ps ≡ length (pattern_list (stored_patterns (hidden-the_row-Pat-0 Stored ps)))
same_count ps = rw (listed ps, length-map ps stored_pattern) refl

pub takes_symbol : (key : Key) (p : Pat Stored) (k n : ℕ) (ps : List (Pat Stored)) (b : Bool) → p ≡ Sym k ps → n ≡ length ps → b ≡ has_symbol key k n → b ≡ is_kept key (pattern_cell p)
takes_symbol key p k n ps b e q r = r ∙ ap (has_symbol key k) (q ∙ same_count ps) ∙ flip (ap (λ (x : Pat Stored). is_kept key (pattern_cell x)) e)

pub takes_variable : (key : Key) (p : Pat Stored) (k n : ℕ) (ps : List (Pat Stored)) (b : Bool) → p ≡ Var k ps → n ≡ length ps → b ≡ has_variable key k n → b ≡ is_kept key (pattern_cell p)
takes_variable key p k n ps b e q r = r ∙ ap (has_variable key k) (q ∙ same_count ps) ∙ flip (ap (λ (x : Pat Stored). is_kept key (pattern_cell x)) e)

module _ (old new : List PlainCell) (p : Pat Stored) (n k : ℕ) (ps : List (Pat Stored)) (parts : new ≡ old ++ blank ∷ map pattern_cell ps) where
  pub after_symbol : p ≡ Sym k ps → new ≡ old ++ cells_after n (cell (stored_pattern p))
  after_symbol e = parts ∙ ap (λ (l : List PlainCell). old ++ blank ∷ l) (flip (listed_cells ps)) ∙ flip (ap (λ (x : Pat Stored). old ++ cells_after n (cell (stored_pattern x))) e)

  pub after_variable : p ≡ Var k ps → new ≡ old ++ cells_after n (cell (stored_pattern p))
  after_variable e = parts ∙ ap (λ (l : List PlainCell). old ++ blank ∷ l) (flip (listed_cells ps)) ∙ flip (ap (λ (x : Pat Stored). old ++ cells_after n (cell (stored_pattern x))) e)

-- the cell at a place

pub cell_found : (cs : List Cell) (i : ℕ) → cell_at (map plain_cell cs) i ≡ plain_cell (get_or cs i Blank)
cell_found [] i = refl
cell_found (x ∷ cs) zero = refl
cell_found (x ∷ cs) (suc i) = cell_found cs i

-- the first rigid cell, `i` cells on

abbrev pub from_place : ℕ → Option ℕ → Option ℕ
from_place i None = None
from_place i (Some j) = Some (j + i)

one_on : (i : ℕ) (o : Option ℕ) → from_place i (elim o [ None ↦ None | Some j ↦ Some (j + 1) ]) ≡ from_place (i + 1) o
one_on i None = refl
one_on i (Some j) = ap (λ (n : ℕ). Some n) (omega arith)

first_rigid : (c : PlainCell) (cs : List PlainCell) (i : ℕ) → is_rigid c ≡ true → from_place i (rigid_at (c ∷ cs)) ≡ Some i
first_rigid c cs i e = rw e (ap (λ (n : ℕ). Some n) (omega arith))

first_loose : (c : PlainCell) (cs : List PlainCell) (i : ℕ) → is_rigid c ≡ false → from_place i (rigid_at (c ∷ cs)) ≡ from_place (i + 1) (rigid_at cs)
first_loose c cs i e = rw e (one_on i (rigid_at cs))

pub rigid_here : (cs : List Cell) (i : ℕ) (d : Cell) → i < length cs → is_rigid (plain_cell (get_or cs i d)) ≡ true
    → from_place i (rigid_at (map plain_cell (drop i cs))) ≡ Some i
rigid_here cs i d lt e = rw (drop_more cs i d lt) (first_rigid (plain_cell (get_or cs i d)) (map plain_cell (drop (i + 1) cs)) i e)

pub rigid_later : (cs : List Cell) (i : ℕ) (d : Cell) → i < length cs → is_rigid (plain_cell (get_or cs i d)) ≡ false
    → from_place i (rigid_at (map plain_cell (drop i cs))) ≡ from_place (i + 1) (rigid_at (map plain_cell (drop (i + 1) cs)))
rigid_later cs i d lt e = rw (drop_more cs i d lt) (first_loose (plain_cell (get_or cs i d)) (map plain_cell (drop (i + 1) cs)) i e)

-- the cells around it

pub cells_joined : (all xs ys zs : List Cell) (mid : List PlainCell) (i : ℕ) → xs ≡ take i all → map plain_cell ys ≡ map plain_cell xs ++ mid → zs ≡ ys ++ drop (i + 1) all
    → map plain_cell zs ≡ take i (map plain_cell all) ++ mid ++ drop (i + 1) (map plain_cell all)
cells_joined all xs ys zs mid i e q r =
    let start : map plain_cell xs ≡ take i (map plain_cell all) = ap (map plain_cell) e ∙ flip (take-map plain_cell i all) in
    let rest : map plain_cell (drop (i + 1) all) ≡ drop (i + 1) (map plain_cell all) = flip (drop-map plain_cell (i + 1) all) in
    ap (map plain_cell) r ∙ map-append plain_cell ys (drop (i + 1) all)
    ∙ ap (λ (l : List PlainCell). l ++ map plain_cell (drop (i + 1) all)) (q ∙ ap (λ (l : List PlainCell). l ++ mid) start)
    ∙ ap (λ (l : List PlainCell). take i (map plain_cell all) ++ mid ++ l) rest

-- rows one after another

module _ (rules : List PlainRule) (key : Key) (i j : ℕ) (rows kept : List Row) (x : Row) (all : List PlainRow) (lt : j < length rows) (at : x ≡ get_or rows j x)
    (h : map (row rules) kept ++ rows_by key i (map (row rules) (drop j rows)) ≡ all) where
  abbrev rest : List PlainRow
  rest = map (row rules) (drop (j + 1) rows)

  next : map (row rules) (drop j rows) ≡ row rules x ∷ rest
  next = ap (map (row rules)) (drop_more rows j x lt) ∙ ap (λ (y : Row). row rules y ∷ rest) (flip at)

  abbrev when : Bool → List PlainRow
  when b = if b then record { cells = cells_when_kept (parts key) i (row rules x).cells; rule = (row rules x).rule } ∷ rows_by key i rest else rows_by key i rest

  pub dropped_here : is_kept key (cell_at (row rules x).cells i) ≡ false → map (row rules) kept ++ rows_by key i (map (row rules) (drop (j + 1) rows)) ≡ all
  dropped_here e = ap (λ (l : List PlainRow). map (row rules) kept ++ l) (flip (ap (rows_by key i) next ∙ ap when e)) ∙ h

  pub kept_here : (y : Row) (new : List Row) → is_kept key (cell_at (row rules x).cells i) ≡ true → map plain_cell y.cells.items ≡ cells_when_kept (parts key) i (map plain_cell x.cells.items)
      → y.at ≡ x.at → new ≡ kept ++ (y ∷ []) → map (row rules) new ++ rows_by key i (map (row rules) (drop (j + 1) rows)) ≡ all
  kept_here y new e c r p =
      ap (λ (l : List Row). map (row rules) l ++ rows_by key i rest) p
      ∙ ap (λ (l : List PlainRow). l ++ rows_by key i rest) (map-append (row rules) kept (y ∷ []))
      ∙ append_assoc (map (row rules) kept) (row rules y ∷ []) (rows_by key i rest)
      ∙ ap (λ (l : List PlainRow). map (row rules) kept ++ l)
      ((λ k. record { cells = c k; rule = rule_at rules (r k) } ∷ rows_by key i rest) ∙ flip (ap (rows_by key i) next ∙ ap when e))
      ∙ h

pub all_refined : (rules : List PlainRule) (key : Key) (i : ℕ) (rows kept : List Row) (j : ℕ) (all : List PlainRow) → length rows ≤ j
    → map (row rules) kept ++ rows_by key i (map (row rules) (drop j rows)) ≡ all → map (row rules) kept ≡ all
all_refined rules key i rows kept j all l h = flip (append_none (map (row rules) kept)) ∙ ap (λ (r : List Row). map (row rules) kept ++ rows_by key i (map (row rules) r)) (flip (drop_past rows j l)) ∙ h
  where
    append_none : {A : Type 0} (xs : List A) → xs ++ [] ≡ xs
    append_none [] = refl
    append_none (x ∷ xs) = ap (λ r. x ∷ r) (append_none xs)

    drop_past : {A : Type 0} (xs : List A) (n : ℕ) → length xs ≤ n → drop n xs ≡ []
    drop_past [] zero h = refl
    drop_past [] (suc n) h = refl
    drop_past (x ∷ xs) zero h = absurd (omega arith)
    drop_past (x ∷ xs) (suc n) h = drop_past xs n (omega arith)
