-- A selection over columns and rows that are alike takes rows that are alike, with the same units.
use Rattle.std.proofs.Common.{List, ◌∷◌, ◌++◌, take, drop, length, slice_get, not, ℕ, ◌≡◌, ◌+◌, Bool, true, false, Option, Some, None, refl, sym, subst, true≢false, if◌then◌else◌}
use Rattle.dk_model.specs.PlainTerms.{Tree}
use Rattle.dk_model.specs.PlainEntries.{PlainRule}
use Rattle.dk_model.specs.Units.{Units, bind}
use Rattle.dk_model.specs.Matrix.{Cell, Column, Row, rigid_at, opened_columns, refined_rows}
use Rattle.dk_model.specs.Captures.{mentions_others, captured, Captures}
use Rattle.dk_model.specs.Selection.{PartTrial, CellTrial, RowTrial, Selected, part_at, recorded, guards_hold, cell_captures, captures_of_row, row_taken, select_from}
use Rattle.dk_model.specs.Parts.{each_same, each_normal}
use Rattle.prune_theory.specs.Alike.{Each, none_left, one_more, Maybe, neither, both, InUnits, both_give, Alike, alike_star, alike_kind, alike_symbol, alike_variable, alike_rule_variable, alike_apply, alike_bare, alike_annotated, alike_product, alike_rule_variable_pattern, alike_wildcard_pattern, alike_guard_pattern, alike_symbol_pattern, alike_variable_pattern, alike_abstraction_pattern, AlikeRule, alike_rule, IsMatching}
use Rattle.prune_theory.proofs.Lists.{if_alike, option_alike, bind_alike, each_append, each_get, each_length, each_take, each_drop, each_set, replicated}
use Rattle.prune_theory.proofs.Terms.{AlikePair, AlikeCaptures, shift_alike, mentions_alike, captured_alike, capture_alike, filled_alike}
use Rattle.prune_theory.proofs.Matrix.{AlikeCell, alike_blank, alike_cell, AlikeColumn, alike_column, AlikeRow, alike_row, rigid_at_alike, opened_alike, refined_rows_alike}

pub data AlikePart (Q : ℕ → ℕ → Type 0) : PartTrial → PartTrial → Type 0 where
  alike_part : {t u : Tree} {fits : Bool} → Alike Q t u → AlikePart Q (record { term = t; fits = fits }) (record { term = u; fits = fits })

pub data AlikeCellTrial (Q : ℕ → ℕ → Type 0) : CellTrial → CellTrial → Type 0 where
  alike_cell_trial : {cs ds : Option Captures} {a b : Column} → Maybe (AlikeCaptures Q) cs ds → AlikeColumn Q a b
      → AlikeCellTrial Q (record { captures = cs; column = a }) (record { captures = ds; column = b })

pub data AlikeRowTrial (Q : ℕ → ℕ → Type 0) : RowTrial → RowTrial → Type 0 where
  alike_row_trial : {cs ds : Option Captures} {as' bs : List Column} → Maybe (AlikeCaptures Q) cs ds → Each (AlikeColumn Q) as' bs
      → AlikeRowTrial Q (record { captures = cs; columns = as' }) (record { captures = ds; columns = bs })

pub data AlikeSelected (Q : ℕ → ℕ → Type 0) : Selected → Selected → Type 0 where
  alike_selected : {cs ds : Captures} {r s : PlainRule} → AlikeCaptures Q cs ds → AlikeRule Q r s
      → AlikeSelected Q (record { captures = cs; rule = r }) (record { captures = ds; rule = s })

-- evaluations of terms that are alike give the same, and leave the same units
abbrev pub EvaluateAlike : (ℕ → ℕ → Type 0) → (ℕ → Tree → Units Tree) → (ℕ → Tree → Units Tree) → Type 0
EvaluateAlike Q F G = (n : ℕ) (t u : Tree) → Alike Q t u → InUnits (Alike Q) (F n t) (G n u)

abbrev pub CompareAlike : (ℕ → ℕ → Type 0) → (ℕ → Tree → Tree → Units Bool) → (ℕ → Tree → Tree → Units Bool) → Type 0
CompareAlike Q F G = (n : ℕ) (t u v w : Tree) → Alike Q t v → Alike Q u w → InUnits ◌≡◌ (F n t u) (G n v w)

if_maybe : {A B : Type 0} {R : A → B → Type 0} (a : A) (b : B) (x y : Bool) → x ≡ y → R a b → Maybe R (if x then Some a else None) (if y then Some b else None)
if_maybe {R} a b x y e r = if_alike (Maybe R) _ _ _ _ x y e (both r) neither

rule_alike : {Q : ℕ → ℕ → Type 0} {x y : Row} → AlikeRow Q x y → AlikeRule Q x.rule y.rule
rule_alike (alike_row cs r) = r

cells_of : {Q : ℕ → ℕ → Type 0} {x y : Row} → AlikeRow Q x y → Each (AlikeCell Q) x.cells y.cells
cells_of (alike_row cs r) = cs

-- ---- the steps of a selection, by name

abbrev after_cell : (ℕ → Tree → Units Tree) → (ℕ → Tree → Tree → Units Bool) → List Cell → List Column → CellTrial → ℕ → Units RowTrial
after_cell N C cells columns here n1 = elim here.captures as (λ _. Units RowTrial) [
  | None ↦ Some (record { captures = None; columns = here.column ∷ columns }, n1)
  | Some more ↦ bind (captures_of_row N C cells columns n1 more) (λ rest n2. Some (record { captures = rest.captures; columns = here.column ∷ rest.columns }, n2))
]

abbrev after_captures : (ℕ → Tree → Tree → Units Bool) → List Cell → RowTrial → ℕ → Units RowTrial
after_captures C cells trial n1 = elim trial.captures as (λ _. Units RowTrial) [
  | None ↦ Some (record { captures = None; columns = trial.columns }, n1)
  | Some captures ↦ bind (guards_hold C cells trial.columns n1 captures) (λ hold n2. Some (record { captures = if hold then Some captures else None; columns = trial.columns }, n2))
]

abbrev after_row : (List Column → ℕ → Units (Option Selected)) → PlainRule → RowTrial → ℕ → Units (Option Selected)
after_row again rule trial n1 = elim trial.captures as (λ _. Units (Option Selected)) [ None ↦ again trial.columns n1 | Some captures ↦ Some (Some (record { captures = captures; rule = rule }), n1) ]

abbrev at_column : (ℕ → Tree → Units Tree) → (ℕ → List Column → List Row → Units (Option Selected)) → List Row → List Column → ℕ → Option Column → ℕ → Units (Option Selected)
at_column W A rows columns i o n = elim o as (λ _. Units (Option Selected)) [
  | None ↦ Some (None, n)
  | Some column ↦ bind (W n column.term) (λ value n1. A n1 (take i columns ++ record { depth = column.depth; term = value } ∷ opened_columns column.depth value ++ drop (i + 1) columns) (refined_rows value (length (opened_columns column.depth value)) i rows))
]

abbrev by_rigid : (ℕ → Tree → Units Tree) → (ℕ → Tree → Tree → Units Bool) → (ℕ → Tree → Units Tree) → (ℕ → List Column → List Row → Units (Option Selected)) → Row → List Row → List Column → ℕ → Option ℕ → Units (Option Selected)
by_rigid N C W A row rows columns n o = elim o as (λ _. Units (Option Selected)) [
  | None ↦ bind (row_taken N C row columns n) (after_row (select_from N C W A rows) row.rule)
  | Some i ↦ at_column W A (row ∷ rows) columns i (slice_get columns i) n
]

module _ {Q : ℕ → ℕ → Type 0} {N N' : ℕ → Tree → Units Tree} {C C' : ℕ → Tree → Tree → Units Bool} (ln : EvaluateAlike Q N N') (lc : CompareAlike Q C C') where
  pub part_alike : (n depth : ℕ) (xs : List ℕ) {t u : Tree} → Alike Q t u → InUnits (AlikePart Q) (part_at N n depth xs t) (part_at N' n depth xs u)
  part_alike n depth xs {t} {u} p = if_alike (InUnits (AlikePart Q)) _ _ _ _ _ _ (mentions_alike 0 depth xs p)
      (bind_alike (ln n t u p) (λ a b m r. subst (λ z. InUnits (AlikePart Q) (Some (record { term = a; fits = not (mentions_others 0 depth xs a) }, m)) (Some (record { term = b; fits = not z }, m)))
      (mentions_alike 0 depth xs r) (both_give (alike_part r))))
      (both_give (alike_part p))

  recorded_alike : (n k : ℕ) {cs ds : Captures} {t u : Tree} → AlikeCaptures Q cs ds → Alike Q t u → InUnits (Maybe (AlikeCaptures Q)) (recorded C n cs k t) (recorded C' n ds k u)
  recorded_alike n k {t} {u} e p = option_alike (InUnits (Maybe (AlikeCaptures Q))) _ _ _ _ (capture_alike e k)
      (both_give (both (each_set k (Some t) (Some u) e (both p))))
      (λ a b r. bind_alike (lc n a t b u r p) (λ x y m s. both_give (if_maybe _ _ x y s e)))

  guards_alike : (n : ℕ) {xs ys : List Cell} {as' bs : List Column} {cs ds : Captures} → Each (AlikeCell Q) xs ys → Each (AlikeColumn Q) as' bs → AlikeCaptures Q cs ds
      → InUnits ◌≡◌ (guards_hold C xs as' n cs) (guards_hold C' ys bs n ds)
  guards_alike n none_left as' e = both_give refl
  guards_alike n (one_more c xs) none_left e = both_give refl
  guards_alike n (one_more (alike_cell (alike_guard_pattern g)) xs) (one_more (alike_column {depth = depth} p) as') e =
      bind_alike (lc n _ _ _ _ p (shift_alike 0 depth (filled_alike e 0 g))) (λ x y m s. if_alike (InUnits ◌≡◌) _ _ _ _ x y s (guards_alike m xs as' e) (both_give refl))
  guards_alike n (one_more alike_blank xs) (one_more p as') e = guards_alike n xs as' e
  guards_alike n (one_more (alike_cell alike_rule_variable_pattern) xs) (one_more p as') e = guards_alike n xs as' e
  guards_alike n (one_more (alike_cell alike_wildcard_pattern) xs) (one_more p as') e = guards_alike n xs as' e
  guards_alike n (one_more (alike_cell (alike_symbol_pattern q ps)) xs) (one_more p as') e = guards_alike n xs as' e
  guards_alike n (one_more (alike_cell (alike_variable_pattern ps)) xs) (one_more p as') e = guards_alike n xs as' e
  guards_alike n (one_more (alike_cell (alike_abstraction_pattern q)) xs) (one_more p as') e = guards_alike n xs as' e

  cell_captures_alike : (n : ℕ) {x y : Cell} {a b : Column} {cs ds : Captures} → AlikeCell Q x y → AlikeColumn Q a b → AlikeCaptures Q cs ds
      → InUnits (AlikeCellTrial Q) (cell_captures N C x a n cs) (cell_captures N' C' y b n ds)
  cell_captures_alike n (alike_cell (alike_rule_variable_pattern {k} {xs})) (alike_column {depth} p) e =
      bind_alike (part_alike n depth xs p) (λ x y m q. after k xs depth e m q)
    where
      after : (k : ℕ) (xs : List ℕ) (depth : ℕ) {cs ds : Captures} → AlikeCaptures Q cs ds → (m : ℕ) {x y : PartTrial} → AlikePart Q x y → InUnits (AlikeCellTrial Q)
          (if x.fits then bind (recorded C m cs k (captured depth xs x.term)) (λ more n2. Some (record { captures = more; column = record { depth = depth; term = x.term } }, n2)) else Some (record { captures = None; column = record { depth = depth; term = x.term } }, m))
          (if y.fits then bind (recorded C' m ds k (captured depth xs y.term)) (λ more n2. Some (record { captures = more; column = record { depth = depth; term = y.term } }, n2)) else Some (record { captures = None; column = record { depth = depth; term = y.term } }, m))
      after k xs depth e m (alike_part {fits} r) = if_alike (InUnits (AlikeCellTrial Q)) _ _ _ _ fits fits refl
          (bind_alike (recorded_alike m k e (captured_alike depth xs r)) (λ c d i s. both_give (alike_cell_trial s (alike_column r))))
          (both_give (alike_cell_trial neither (alike_column r)))
  cell_captures_alike n alike_blank p e = both_give (alike_cell_trial (both e) p)
  cell_captures_alike n (alike_cell alike_wildcard_pattern) p e = both_give (alike_cell_trial (both e) p)
  cell_captures_alike n (alike_cell (alike_guard_pattern g)) p e = both_give (alike_cell_trial (both e) p)
  cell_captures_alike n (alike_cell (alike_symbol_pattern q ps)) p e = both_give (alike_cell_trial (both e) p)
  cell_captures_alike n (alike_cell (alike_variable_pattern ps)) p e = both_give (alike_cell_trial (both e) p)
  cell_captures_alike n (alike_cell (alike_abstraction_pattern q)) p e = both_give (alike_cell_trial (both e) p)

  put : (i : ℕ) {a b : Column} {x y : RowTrial} → AlikeColumn Q a b → AlikeRowTrial Q x y
      → InUnits (AlikeRowTrial Q) (Some (record { captures = x.captures; columns = a ∷ x.columns }, i)) (Some (record { captures = y.captures; columns = b ∷ y.columns }, i))
  put i a (alike_row_trial f bs) = both_give (alike_row_trial f (one_more a bs))

  goes_on : (m : ℕ) (cells cells' : List Cell) {cols cols' : List Column} {x y : CellTrial} → Each (AlikeColumn Q) cols cols'
      → ((i : ℕ) (cs ds : Captures) → AlikeCaptures Q cs ds → InUnits (AlikeRowTrial Q) (captures_of_row N C cells cols i cs) (captures_of_row N' C' cells' cols' i ds))
      → AlikeCellTrial Q x y → InUnits (AlikeRowTrial Q) (after_cell N C cells cols x m) (after_cell N' C' cells' cols' y m)
  goes_on m cells cells' as' k (alike_cell_trial neither a) = both_give (alike_row_trial neither (one_more a as'))
  goes_on m cells cells' as' k (alike_cell_trial (both {a = c} {b = d} f) a) = bind_alike (k m c d f) (λ x y i r. put i a r)

  captures_alike : (n : ℕ) {xs ys : List Cell} {as' bs : List Column} {cs ds : Captures} → Each (AlikeCell Q) xs ys → Each (AlikeColumn Q) as' bs → AlikeCaptures Q cs ds
      → InUnits (AlikeRowTrial Q) (captures_of_row N C xs as' n cs) (captures_of_row N' C' ys bs n ds)
  captures_alike n none_left as' e = both_give (alike_row_trial (both e) as')
  captures_alike n (one_more c xs) none_left e = both_give (alike_row_trial (both e) none_left)
  captures_alike n (one_more c xs) (one_more p as') e = bind_alike (cell_captures_alike n c p e) (λ x y m r. goes_on m _ _ as' (λ i cs ds f. captures_alike i xs as' f) r)

  vars_alike : {r s : PlainRule} → AlikeRule Q r s → r.vars ≡ s.vars
  vars_alike (alike_rule q ps ns t) = refl

  if_captured : {cs ds : Captures} {as' bs : List Column} (i : ℕ) (x y : Bool) → x ≡ y → AlikeCaptures Q cs ds → Each (AlikeColumn Q) as' bs
      → InUnits (AlikeRowTrial Q) (Some (record { captures = if x then Some cs else None; columns = as' }, i)) (Some (record { captures = if y then Some ds else None; columns = bs }, i))
  if_captured i true true e f as' = both_give (alike_row_trial (both f) as')
  if_captured i false false e f as' = both_give (alike_row_trial neither as')
  if_captured i true false e f as' = absurd (true≢false e)
  if_captured i false true e f as' = absurd (true≢false (sym e))

  guarded : (m : ℕ) {cells cells' : List Cell} {x y : RowTrial} → Each (AlikeCell Q) cells cells' → AlikeRowTrial Q x y
      → InUnits (AlikeRowTrial Q) (after_captures C cells x m) (after_captures C' cells' y m)
  guarded m xs (alike_row_trial neither as') = both_give (alike_row_trial neither as')
  guarded m xs (alike_row_trial (both f) as') = bind_alike (guards_alike m xs as' f) (λ x y i s. if_captured i x y s f as')

  pub row_taken_alike : (n : ℕ) {x y : Row} {as' bs : List Column} → AlikeRow Q x y → Each (AlikeColumn Q) as' bs → InUnits (AlikeRowTrial Q) (row_taken N C x as' n) (row_taken N' C' y bs n)
  row_taken_alike n (alike_row xs r) as' = bind_alike (captures_alike n xs as' (replicated _ _ None None (vars_alike r) neither)) (λ x y m t. guarded m xs t)

  pub each_same_alike : (n : ℕ) {ps qs : List (Tree × Tree)} → Each (AlikePair Q) ps qs → InUnits ◌≡◌ (each_same C ps n) (each_same C' qs n)
  each_same_alike n none_left = both_give refl
  each_same_alike n (one_more p e) = bind_alike (lc n _ _ _ _ p.0 p.1) (λ x y m s. if_alike (InUnits ◌≡◌) _ _ _ _ x y s (each_same_alike m e) (both_give refl))

  pub each_normal_alike : (n : ℕ) {t u : Tree} → Alike Q t u → InUnits (Alike Q) (each_normal N t n) (each_normal N' u n)
  each_normal_alike n (alike_apply p q) = bind_alike (each_normal_alike n p) (λ f g m r. bind_alike (ln m _ _ q) (λ a b i s. both_give (alike_apply r s)))
  each_normal_alike n (alike_bare p) = bind_alike (ln n _ _ p) (λ b c m r. both_give (alike_bare r))
  each_normal_alike n (alike_annotated p q) = bind_alike (ln n _ _ p) (λ a b m r. bind_alike (ln m _ _ q) (λ c d i s. both_give (alike_annotated r s)))
  each_normal_alike n (alike_product p q) = bind_alike (ln n _ _ p) (λ a b m r. bind_alike (ln m _ _ q) (λ c d i s. both_give (alike_product r s)))
  each_normal_alike n alike_star = both_give alike_star
  each_normal_alike n alike_kind = both_give alike_kind
  each_normal_alike n (alike_symbol q) = both_give (alike_symbol q)
  each_normal_alike n alike_variable = both_give alike_variable
  each_normal_alike n alike_rule_variable = both_give alike_rule_variable

  module _ (matching : IsMatching Q) {W W' : ℕ → Tree → Units Tree} {A A' : ℕ → List Column → List Row → Units (Option Selected)} (lw : EvaluateAlike Q W W')
      (la : (n : ℕ) (as' bs : List Column) (xs ys : List Row) → Each (AlikeColumn Q) as' bs → Each (AlikeRow Q) xs ys → InUnits (Maybe (AlikeSelected Q)) (A n as' xs) (A' n bs ys)) where
    taken : (m : ℕ) (rest rest' : List Row) {r s : PlainRule} {x y : RowTrial} → AlikeRule Q r s
        → ((i : ℕ) (as' bs : List Column) → Each (AlikeColumn Q) as' bs → InUnits (Maybe (AlikeSelected Q)) (select_from N C W A rest as' i) (select_from N' C' W' A' rest' bs i))
        → AlikeRowTrial Q x y → InUnits (Maybe (AlikeSelected Q)) (after_row (select_from N C W A rest) r x m) (after_row (select_from N' C' W' A' rest') s y m)
    taken m rest rest' r k (alike_row_trial neither as') = k m _ _ as'
    taken m rest rest' r k (alike_row_trial (both f) as') = both_give (both (alike_selected f r))

    opened : (n i : ℕ) {as' bs : List Column} {xs ys : List Row} {o o' : Option Column} → Each (AlikeColumn Q) as' bs → Each (AlikeRow Q) xs ys → Maybe (AlikeColumn Q) o o'
        → InUnits (Maybe (AlikeSelected Q)) (at_column W A xs as' i o n) (at_column W' A' ys bs i o' n)
    opened n i as' e neither = both_give neither
    opened n i {xs} {ys} as' e (both (alike_column {depth} p)) = bind_alike (lw n _ _ p) (λ v w m r. la m _ _ _ _
        (each_append (each_append (each_take i as') (one_more (alike_column r) (opened_alike depth r))) (each_drop (i + 1) as'))
        (subst (λ z. Each (AlikeRow Q) (refined_rows v (length (opened_columns depth v)) i xs) (refined_rows w z i ys)) (each_length (opened_alike depth r))
        (refined_rows_alike matching (length (opened_columns depth v)) i r e)))

    chosen : (n : ℕ) (o : Option ℕ) {x y : Row} {rest rest' : List Row} {as' bs : List Column} → AlikeRow Q x y → Each (AlikeRow Q) rest rest' → Each (AlikeColumn Q) as' bs
        → ((i : ℕ) (cs ds : List Column) → Each (AlikeColumn Q) cs ds → InUnits (Maybe (AlikeSelected Q)) (select_from N C W A rest cs i) (select_from N' C' W' A' rest' ds i))
        → InUnits (Maybe (AlikeSelected Q)) (by_rigid N C W A x rest as' n o) (by_rigid N' C' W' A' y rest' bs n o)
    chosen n None {rest} {rest'} x e as' k = bind_alike (row_taken_alike n x as') (λ a b m r. taken m rest rest' (rule_alike x) k r)
    chosen n (Some i) x e as' k = opened n i as' (one_more x e) (each_get as' i)

    pub select_alike : (n : ℕ) {xs ys : List Row} {as' bs : List Column} → Each (AlikeRow Q) xs ys → Each (AlikeColumn Q) as' bs
        → InUnits (Maybe (AlikeSelected Q)) (select_from N C W A xs as' n) (select_from N' C' W' A' ys bs n)
    select_alike n none_left as' = both_give neither
    select_alike n {as' = cols} {bs = cols'} (one_more {a = x} {b = y} {as' = rest} {bs = rest'} r e) as' = subst
        (λ z. InUnits (Maybe (AlikeSelected Q)) (by_rigid N C W A x rest cols n (rigid_at x.cells)) (by_rigid N' C' W' A' y rest' cols' n z)) (rigid_at_alike (cells_of r))
        (chosen n (rigid_at x.cells) r e as' (λ i cs ds f. select_alike i e f))
