-- Matrices that are alike are refined to matrices that are alike.
use Rattle.std.proofs.Common.{List, ◌∷◌, ◌++◌, take, drop, map, length, replicate, max, ℕ, zero, suc, ◌≡◌, ◌+◌, ◌-◌, nat_lt, eqb, ◌&&◌, Option, Some, None, refl, ap, if◌then◌else◌}
use Rattle.dk_model.specs.PlainTerms.{Tree}
use Rattle.dk_model.specs.PlainEntries.{Pattern, Patterns, pattern_list, PlainRule}
use Rattle.dk_model.specs.Matrix.{Cell, blank, cell, Column, Row, first_cells, rows_for, width, is_rigid, rigid_at, opened_columns, heads_same, is_bare, refined_cells, cell_at, refined_rows}
use Rattle.prune_theory.specs.Alike.{Each, none_left, one_more, Maybe, neither, both, Alike, alike_symbol, alike_variable, alike_apply, alike_bare, AlikePattern, alike_rule_variable_pattern, alike_wildcard_pattern, alike_guard_pattern, alike_symbol_pattern, alike_variable_pattern, alike_abstraction_pattern, AlikePatterns, alike_no_patterns, alike_more_patterns, AlikeRule, alike_rule, IsMatching}
use Rattle.prune_theory.proofs.Lists.{if_alike, each_append, each_length, each_map, each_take, each_drop, replicated}
use Rattle.prune_theory.proofs.Terms.{head_alike, arguments_alike}

pub data AlikeCell (Q : ℕ → ℕ → Type 0) : Cell → Cell → Type 0 where
  alike_blank : AlikeCell Q blank blank
  alike_cell : {p q : Pattern} → AlikePattern Q p q → AlikeCell Q (cell p) (cell q)

pub data AlikeColumn (Q : ℕ → ℕ → Type 0) : Column → Column → Type 0 where
  alike_column : {depth : ℕ} {t u : Tree} → Alike Q t u → AlikeColumn Q (record { depth = depth; term = t }) (record { depth = depth; term = u })

pub data AlikeRow (Q : ℕ → ℕ → Type 0) : Row → Row → Type 0 where
  alike_row : {cs ds : List Cell} {r s : PlainRule} → Each (AlikeCell Q) cs ds → AlikeRule Q r s → AlikeRow Q (record { cells = cs; rule = r }) (record { cells = ds; rule = s })

module _ {Q : ℕ → ℕ → Type 0} where
  pub list_alike : {ps qs : Patterns} → AlikePatterns Q ps qs → Each (AlikePattern Q) (pattern_list ps) (pattern_list qs)
  list_alike alike_no_patterns = none_left
  list_alike (alike_more_patterns p e) = one_more p (list_alike e)

  cells_alike : {ps qs : List Pattern} → Each (AlikePattern Q) ps qs → Each (AlikeCell Q) (map cell ps) (map cell qs)
  cells_alike = each_map cell cell (λ p q r. alike_cell r)

  first_cells_alike : (w : ℕ) {r s : PlainRule} → AlikeRule Q r s → Each (AlikeCell Q) (first_cells w r) (first_cells w s)
  first_cells_alike w (alike_rule q ps ns t) = each_append (cells_alike ps) (replicated _ _ blank blank (ap (λ k. w - k) (each_length ps)) alike_blank)

  pats_length : {r s : PlainRule} → AlikeRule Q r s → length r.pats ≡ length s.pats
  pats_length (alike_rule q ps ns t) = each_length ps

  pub rows_alike : (count w : ℕ) {rs qs : List PlainRule} → Each (AlikeRule Q) rs qs → Each (AlikeRow Q) (rows_for count w rs) (rows_for count w qs)
  rows_alike count w none_left = none_left
  rows_alike count w (one_more r e) = if_alike (Each (AlikeRow Q)) _ _ _ _ _ _ (ap (λ k. nat_lt count k) (pats_length r)) (rows_alike count w e)
      (one_more (alike_row (first_cells_alike w r) r) (rows_alike count w e))

  pub width_alike : (count : ℕ) {rs qs : List PlainRule} → Each (AlikeRule Q) rs qs → width count rs ≡ width count qs
  width_alike count none_left = refl
  width_alike count (one_more r e) = λ i. if nat_lt count (pats_length r i) then width_alike count e i else max (pats_length r i) (width_alike count e i)

  rigid_alike : {c d : Cell} → AlikeCell Q c d → is_rigid c ≡ is_rigid d
  rigid_alike alike_blank = refl
  rigid_alike (alike_cell alike_rule_variable_pattern) = refl
  rigid_alike (alike_cell alike_wildcard_pattern) = refl
  rigid_alike (alike_cell (alike_guard_pattern p)) = refl
  rigid_alike (alike_cell (alike_symbol_pattern q ps)) = refl
  rigid_alike (alike_cell (alike_variable_pattern ps)) = refl
  rigid_alike (alike_cell (alike_abstraction_pattern p)) = refl

  pub rigid_at_alike : {cs ds : List Cell} → Each (AlikeCell Q) cs ds → rigid_at cs ≡ rigid_at ds
  rigid_at_alike none_left = refl
  rigid_at_alike (one_more c e) = λ i. if rigid_alike c i then Some 0 else elim (rigid_at_alike e i) as (λ _. Option ℕ) [ None ↦ None | Some k ↦ Some (k + 1) ]

  columns_alike : (depth : ℕ) {ts us : List Tree} → Each (Alike Q) ts us
      → Each (AlikeColumn Q) (map (λ argument. record { depth = depth; term = argument }) ts) (map (λ argument. record { depth = depth; term = argument }) us)
  columns_alike depth = each_map _ _ (λ t u r. alike_column r)

  pub opened_alike : (depth : ℕ) {v w : Tree} → Alike Q v w → Each (AlikeColumn Q) (opened_columns depth v) (opened_columns depth w)
  opened_alike depth (alike_bare p) = one_more (alike_column p) none_left
  opened_alike depth (alike_apply p q) = columns_alike depth (arguments_alike (alike_apply p q))
  opened_alike depth p = none_left

  pub heads_alike : IsMatching Q → {t u v w : Tree} → Alike Q t v → Alike Q u w → heads_same t u ≡ heads_same v w
  heads_alike k (alike_symbol {j = j} {k = a} p) (alike_symbol {j = l} {k = b} q) = k j l a b p q
  heads_alike k alike_variable alike_variable = refl
  heads_alike k p q = refl

  bare_alike : {t u : Tree} → Alike Q t u → is_bare t ≡ is_bare u
  bare_alike (alike_bare p) = refl
  bare_alike p = refl

  blanks_alike : (n : ℕ) → Each (AlikeCell Q) (replicate n blank) (replicate n blank)
  blanks_alike n = replicated n n blank blank refl alike_blank

  refined_alike : IsMatching Q → (count : ℕ) {v w : Tree} {c d : Cell} → Alike Q v w → AlikeCell Q c d → Maybe (Each (AlikeCell Q)) (refined_cells v count c) (refined_cells w count d)
  refined_alike k count v (alike_cell (alike_symbol_pattern q ps)) = if_alike (Maybe (Each (AlikeCell Q))) _ _ _ _ _ _
      (λ i. heads_alike k (head_alike v) (alike_symbol q) i && eqb (each_length (arguments_alike v) i) (each_length (list_alike ps) i))
      (both (one_more alike_blank (cells_alike (list_alike ps)))) neither
  refined_alike k count v (alike_cell (alike_variable_pattern {k = x} ps)) = if_alike (Maybe (Each (AlikeCell Q))) _ _ _ _ _ _
      (λ i. heads_alike k (head_alike v) (alike_variable {k = x}) i && eqb (each_length (arguments_alike v) i) (each_length (list_alike ps) i))
      (both (one_more alike_blank (cells_alike (list_alike ps)))) neither
  refined_alike k count v (alike_cell (alike_abstraction_pattern p)) = if_alike (Maybe (Each (AlikeCell Q))) _ _ _ _ _ _ (bare_alike v)
      (both (one_more alike_blank (one_more (alike_cell p) none_left))) neither
  refined_alike k count v alike_blank = both (one_more alike_blank (blanks_alike count))
  refined_alike k count v (alike_cell alike_rule_variable_pattern) = both (one_more (alike_cell alike_rule_variable_pattern) (blanks_alike count))
  refined_alike k count v (alike_cell alike_wildcard_pattern) = both (one_more (alike_cell alike_wildcard_pattern) (blanks_alike count))
  refined_alike k count v (alike_cell (alike_guard_pattern p)) = both (one_more (alike_cell (alike_guard_pattern p)) (blanks_alike count))

  cell_at_alike : (i : ℕ) {cs ds : List Cell} → Each (AlikeCell Q) cs ds → AlikeCell Q (cell_at cs i) (cell_at ds i)
  cell_at_alike i none_left = alike_blank
  cell_at_alike zero (one_more c e) = c
  cell_at_alike (suc i) (one_more c e) = cell_at_alike i e

  -- a row with new cells at a place, before others
  kept_alike : (i : ℕ) {cs ds : List Cell} {r q : PlainRule} {rs qs : List Row} {o o' : Option (List Cell)} → Each (AlikeCell Q) cs ds → AlikeRule Q r q → Each (AlikeRow Q) rs qs
      → Maybe (Each (AlikeCell Q)) o o' → Each (AlikeRow Q)
      (elim o as (λ _. List Row) [ None ↦ rs | Some cells ↦ record { cells = take i cs ++ cells ++ drop (i + 1) cs; rule = r } ∷ rs ])
      (elim o' as (λ _. List Row) [ None ↦ qs | Some cells ↦ record { cells = take i ds ++ cells ++ drop (i + 1) ds; rule = q } ∷ qs ])
  kept_alike i cs r e neither = e
  kept_alike i cs r e (both d) = one_more (alike_row (each_append (each_append (each_take i cs) d) (each_drop (i + 1) cs)) r) e

  pub refined_rows_alike : IsMatching Q → (count i : ℕ) {v w : Tree} {rs qs : List Row} → Alike Q v w → Each (AlikeRow Q) rs qs
      → Each (AlikeRow Q) (refined_rows v count i rs) (refined_rows w count i qs)
  refined_rows_alike k count i v none_left = none_left
  refined_rows_alike k count i v (one_more (alike_row cs r) e) = kept_alike i cs r (refined_rows_alike k count i v e) (refined_alike k count v (cell_at_alike i cs))

  -- the columns of arguments
  pub argument_columns_alike : {ts us : List Tree} → Each (Alike Q) ts us
      → Each (AlikeColumn Q) (map (λ argument. record { depth = 0; term = argument }) ts) (map (λ argument. record { depth = 0; term = argument }) us)
  argument_columns_alike = columns_alike 0
