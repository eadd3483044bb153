-- Rows, one after another, and their cells before and after a column has a value.
use Rattle.std.proofs.Common.{zero, suc, List, [], ◌∷◌, ◌++◌, ◌≡◌, ◌≤◌, ◌<◌, ◌+◌, ℕ, Bool, true, false, Option, Some, None, ap, ◌∙◌, map, take, drop, length, get_or, refl, arith, append-nil, subst as along, sym as flip, slice_get, nat_lt, IfSome, if◌then◌else◌, All, option_map, option_to_list, ◌-◌, eqb, ◌&&◌, replicate}
use Rattle.std.proofs.lemmas.List.{map-append, map_more, length-map}
use Rattle.std.proofs.lemmas.List.Elements.{All-get_or, All-push, All-same}
use Rattle.std.proofs.lemmas.Option.{slice_get_within, get_or_from_slice_get}
use Rattle.std.proofs.lemmas.Bool.Decides.{nat_tests}
use Rattle.dk_model.specs.Signatures.{PlainRule, Pattern, pattern_list, patterns_by}
use Rattle.dk_model.specs.Matrix.{cell_at, first_cells, rows_for, refined_cells, refined_rows, Row as PlainRow, blank, cell, Cell as PlainCell}
use Rattle.dk_model.specs.Trees.{symbol}
use Rattle.dk_model.specs.declared.signature.Pat.{Row_of-Pat, end_of-Pat, more_of-Pat, items-the_row-Pat}
use Rattle.dk_model.specs.declared.signature.Pat.TheBlock.{hidden-the_row-Pat-0, items_hidden-the_row-Pat-0}
use Rattle.shared_term.specs.Storage.{stored_term}
use Rattle.tree_evaluation.specs.declared.matrix.Cell.TheVariants.{Blank}
use Rattle.tree_evaluation.specs.Views.{SymbolRule, Row, rule, row, refined_row, Pat, Stored, Cell, stored_pattern, pattern_cell, plain_cell, cells_if, Tree}
use Rattle.tree_evaluation.specs.Tellings.{IsFirstRow, IsRefinedFrom, IsRowOf}

row_items : (n : _) (r : Row_of-Pat Stored n) → pattern_list (patterns_by stored_term r) ≡ map stored_pattern (items-the_row-Pat Stored n r)
row_items n end_of-Pat = refl
row_items n (more_of-Pat p r) = ap (λ (l : List Pattern). stored_pattern p ∷ l) (row_items _ r)

-- the patterns below a symbol
abbrev listed_patterns : List (Pat Stored) → List Pattern
listed_patterns ps = pattern_list (patterns_by stored_term (hidden-the_row-Pat-0 Stored ps))

listed : (ps : List (Pat Stored)) → listed_patterns ps ≡ map stored_pattern ps
listed ps = row_items _ (hidden-the_row-Pat-0 Stored ps) ∙ ap (map stored_pattern) (items_hidden-the_row-Pat-0 Stored ps)

pub each_cell : (ps : List (Pat Stored)) → map pattern_cell ps ≡ map cell (map stored_pattern ps)
each_cell [] = refl
each_cell (p ∷ ps) = ap (λ (l : List PlainCell). pattern_cell p ∷ l) (each_cell ps)

pub blank_cells : (n : ℕ) → map plain_cell (replicate n Blank) ≡ replicate n blank
blank_cells zero = refl
blank_cells (suc n) = ap (λ (l : List PlainCell). blank ∷ l) (blank_cells n)

-- the cells of a rule

pub first_are : (r : PlainRule) (w : ℕ) (ps : List (Pat Stored)) (front behind all : List Cell) → all ≡ front ++ behind → map plain_cell front ≡ map pattern_cell ps → map stored_pattern ps ≡ r.pats
    → map plain_cell behind ≡ replicate (w - length r.pats) blank → map plain_cell all ≡ map cell r.pats ++ replicate (w - length r.pats) blank
first_are r w ps front behind all e f p b =
    ap (map plain_cell) e ∙ map-append plain_cell front behind
    ∙ ap (λ (l : List PlainCell). l ++ map plain_cell behind) (f ∙ each_cell ps ∙ ap (map cell) p) ∙ ap (λ (l : List PlainCell). map cell r.pats ++ l) b

-- the cells for a value that a pattern takes, where the heads are the same or not

module _ (ps : List (Pat Stored)) where
  abbrev parts_if : Bool → List Pattern → Option (List PlainCell)
  parts_if b l = if b then Some (blank ∷ map cell l) else None

  listed_so : (b : Bool) → parts_if b (map stored_pattern ps) ≡ cells_if (map pattern_cell ps) b
  listed_so true = ap (λ (l : List PlainCell). Some (blank ∷ l)) (flip (each_cell ps))
  listed_so false = refl

  pub parts_taken : (same : Bool) (count : ℕ) → parts_if (same && eqb count (length (listed_patterns ps))) (listed_patterns ps) ≡ cells_if (map pattern_cell ps) (same && eqb count (length ps))
  parts_taken same count =
      ap (λ (l : List Pattern). parts_if (same && eqb count (length l)) l) (listed ps) ∙ listed_so (same && eqb count (length (map stored_pattern ps)))
      ∙ ap (λ (m : ℕ). cells_if (map pattern_cell ps) (same && eqb count m)) (length-map ps stored_pattern)

-- what holds of each
pub each_at : {A : Type 0} (P : A → Type 0) (xs : List A) (i : ℕ) (x : A) → All P xs → slice_get xs i ≡ Some x → P x
each_at P xs i x a e = along P (get_or_from_slice_get xs i x x e) (All-get_or P xs i x (slice_get_within xs i x e) a)

pub each_more : (P : Row → Type 0) (rs all : List Row) (o : Option Row) → all ≡ rs ++ option_to_list o → All P rs → IfSome o P → All P all
each_more P rs all None e a h = All-same P all rs (e ∙ append-nil rs) a
each_more P rs all (Some r) e a h = All-same P all (rs ++ (r ∷ [])) e (All-push P rs r a h)

-- one more in what is shown of them
pub shown_more : {A B : Type 0} (F : List B → List PlainRow) → ((xs ys : List B) → F (xs ++ ys) ≡ F xs ++ F ys) → (f : A → B) (xs : List A) (i : ℕ) (x : A) (rs all : List Row) (o : Option Row)
    → i < length xs → x ≡ get_or xs i x → all ≡ rs ++ option_to_list o → map row rs ≡ F (map f (take i xs)) → map row (option_to_list o) ≡ F (f x ∷ []) → map row all ≡ F (map f (take (i + 1) xs))
shown_more F more f xs i x rs all o l e a h n =
    ap (map row) a ∙ map-append row rs (option_to_list o) ∙ ap (λ (qs : List PlainRow). qs ++ map row (option_to_list o)) h ∙ ap (λ (qs : List PlainRow). F (map f (take i xs)) ++ qs) n
    ∙ flip (ap F (map_more f xs i x l ∙ ap (λ (y : _). map f (take i xs) ++ (f y ∷ [])) (flip e)) ∙ more (map f (take i xs)) (f x ∷ []))

-- ---- first rows

if_append : {A : Type 0} (b : Bool) (x : A) (xs ys : List A) → (if b then xs else x ∷ xs) ++ ys ≡ (if b then xs ++ ys else x ∷ (xs ++ ys))
if_append true x xs ys = refl
if_append false x xs ys = refl

module _ (wide count : ℕ) where
  abbrev first : PlainRule → PlainRow
  first r = record { cells = first_cells wide r; rule = r }

  pub rules_more : (rs qs : List PlainRule) → rows_for count wide (rs ++ qs) ≡ rows_for count wide rs ++ rows_for count wide qs
  rules_more [] qs = refl
  rules_more (r ∷ rs) qs = ap (λ (l : List PlainRow). if nat_lt count (length r.pats) then l else first r ∷ l) (rules_more rs qs)
      ∙ flip (if_append (nat_lt count (length r.pats)) (first r) (rows_for count wide rs) (rows_for count wide qs))

  none_for : (r : PlainRule) (b : Bool) → nat_lt count (length r.pats) ≡ b → count < length r.pats → [] ≡ (if b then [] else first r ∷ [])
  none_for r true e h = refl
  none_for r false e h = absurd (grind (arith, nat_tests))

  one_for : (r : PlainRule) (b : Bool) → nat_lt count (length r.pats) ≡ b → length r.pats ≤ count → first r ∷ [] ≡ (if b then [] else first r ∷ [])
  one_for r true e h = absurd (grind (arith, nat_tests))
  one_for r false e h = refl

  module _ (from : ℕ) (own : SymbolRule) where
    pub rule_shown : (o : Option Row) → (o ≡ None → count < length (rule own).pats) → IfSome o (IsRowOf wide count from own) → map row (option_to_list o) ≡ rows_for count wide (rule own ∷ [])
    rule_shown None n s = none_for (rule own) (nat_lt count (length (rule own).pats)) refl (n refl)
    rule_shown (Some r) n s =
        ap (λ (cells : List PlainCell). record { cells = cells; rule = rule r.rule } ∷ []) s.cells ∙ one_for (rule r.rule) (nat_lt count (length (rule r.rule).pats)) refl s.few
        ∙ ap (λ (x : SymbolRule). rows_for count wide (rule x ∷ [])) s.same_rule

    pub rule_first : (rules : List SymbolRule) (o : Option Row) → slice_get rules from ≡ Some own → IfSome o (IsRowOf wide count from own) → IfSome o (IsFirstRow wide count rules)
    rule_first rules None t s = tt
    rule_first rules (Some r) t s = record { numbered = ap (slice_get rules) s.place ∙ t ∙ ap (λ (x : SymbolRule). Some x) (flip s.same_rule); cells = s.cells; few = s.few }

-- ---- refined rows

module _ (v : Tree) (count at : ℕ) where
  abbrev with_cells : PlainRow → Option (List PlainCell) → List PlainRow → List PlainRow
  with_cells r o rs = elim o as (λ _. List PlainRow) [ None ↦ rs | Some cells ↦ record { cells = take at r.cells ++ cells ++ drop (at + 1) r.cells; rule = r.rule } ∷ rs ]

  cells_append : (r : PlainRow) (o : Option (List PlainCell)) (rs qs : List PlainRow) → with_cells r o rs ++ qs ≡ with_cells r o (rs ++ qs)
  cells_append r None rs qs = refl
  cells_append r (Some cells) rs qs = refl

  pub refined_more : (rs qs : List PlainRow) → refined_rows v count at (rs ++ qs) ≡ refined_rows v count at rs ++ refined_rows v count at qs
  refined_more [] qs = refl
  refined_more (r ∷ rs) qs = ap (with_cells r (refined_cells v count (cell_at r.cells at))) (refined_more rs qs)
      ∙ flip (cells_append r (refined_cells v count (cell_at r.cells at)) (refined_rows v count at rs) (refined_rows v count at qs))

  alone : (r : PlainRow) (o : Option (List PlainCell)) → option_to_list (option_map (λ cells. record { cells = take at r.cells ++ cells ++ drop (at + 1) r.cells; rule = r.rule }) o) ≡ with_cells r o []
  alone r None = refl
  alone r (Some cells) = refl

  as_list : (o : Option Row) → map row (option_to_list o) ≡ option_to_list (option_map row o)
  as_list None = refl
  as_list (Some r) = refl

  module _ (own : Row) where
    pub refined_shown : (o : Option Row) → option_map row o ≡ refined_row v count at (row own) → map row (option_to_list o) ≡ refined_rows v count at (row own ∷ [])
    refined_shown o e = as_list o ∙ ap option_to_list e ∙ alone (row own) (refined_cells v count (cell_at (row own).cells at))

    pub refined_from : (rs : List Row) (from : ℕ) (o : Option Row) → slice_get rs from ≡ Some own → option_map row o ≡ refined_row v count at (row own)
        → IfSome o (λ r. r.from ≡ from) → IfSome o (λ r. r.rule ≡ own.rule) → IfSome o (IsRefinedFrom v count at rs)
    refined_from rs from None t e p q = tt
    refined_from rs from (Some r) t e p q = record { before = own; stands = ap (slice_get rs) p ∙ t; refined = flip e; same_rule = flip q }
