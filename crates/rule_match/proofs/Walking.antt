-- Left sides where they stand beside their rules, and the rows made of them.
use Rattle.std.proofs.Common.{List, [], ◌∷◌, ◌++◌, ◌≡◌, ◌≤◌, ◌<◌, ◌+◌, ◌-◌, max, ℕ, zero, suc, Some, None, Bool, true, false, refl, ap, ◌∙◌, sym as flip, subst, arith, map, drop, take, length, get_or, append_assoc, nat_lt}
use Rattle.std.proofs.lemmas.List.{map-append, length-map}
use Rattle.std.specs.Prelude.{replicate, slice_get, if◌then◌else◌}
use Rattle.std.proofs.lemmas.Bool.{ltb-false}
use Rattle.std.proofs.lemmas.Bool.Decides.{nat_tests}
use Rattle.dk_model.specs.Signatures.{PlainRule}
use Rattle.dk_model.specs.Matrix.{Cell, blank, cell, cell_at, first_cells, rows_for, width}
use Rattle.dk_model.specs.declared.signature.Pat.{Pat}
use Rattle.shared_term.specs.declared.stored.Stored.{Stored}
use Rattle.std.specs.Option.{option_map}
use Rattle.dk_model.specs.Matrix.{Row as PlainRow}
use Rattle.rule_match.specs.declared.cell.Row.{Row}
use Rattle.rule_match.specs.declared.walk.LeftSide.{LeftSide}
use Rattle.rule_match.specs.Rows.{plain_cell, pattern_cell, stored_pattern, row, rule_at}
use Rattle.rule_match.specs.declared.key.Key.{Key}
use Rattle.rule_match.specs.Keys.{is_kept, parts, cells_when_kept, rows_by}
use Rattle.rule_match.specs.Sides.{IsLeftSide, AreLeftSides, widest}
use Rattle.rule_match.proofs.Matching.{next_there, none_there}
use Rattle.rule_match.specs.Remaining.{HasVariables}
use Rattle.rule_match.proofs.Refining.{each_cell}

pub left_count : (r : PlainRule) (s : LeftSide) → IsLeftSide r s → length s.patterns.now ≡ length r.pats
left_count r s h = flip (length-map s.patterns.now pattern_cell) ∙ ap length h.patterns ∙ length-map r.pats cell

pub as_many : (rs : List PlainRule) (ss : List LeftSide) → AreLeftSides rs ss → length ss ≡ length rs
as_many [] [] h = refl
as_many [] (s ∷ ss) h = absurd h
as_many (r ∷ rs) [] h = absurd h
as_many (r ∷ rs) (s ∷ ss) h = ap suc (as_many rs ss h.1)

-- the rule at a place with its left side
pub record BesideLeft (rules : List PlainRule) (i : ℕ) (s : LeftSide) : Type 0 where
  pub rest : drop i rules ≡ rule_at rules i ∷ drop (i + 1) rules
  pub side : IsLeftSide (rule_at rules i) s

beside_left_next : (rules : List PlainRule) (ss : List LeftSide) (i : ℕ) (s : LeftSide) → AreLeftSides rules ss → i < length ss → s ≡ get_or ss i s
    → (drop i rules ≡ rule_at rules i ∷ drop (suc i) rules) × IsLeftSide (rule_at rules i) s
beside_left_next [] [] i s h l e = absurd (omega arith)
beside_left_next [] (t ∷ ss) i s h l e = absurd h
beside_left_next (r ∷ rs) [] i s h l e = absurd h
beside_left_next (r ∷ rs) (t ∷ ss) zero s h l e = (refl, subst (λ (x : LeftSide). IsLeftSide r x) (flip e) h.0)
beside_left_next (r ∷ rs) (t ∷ ss) (suc i) s h l e = beside_left_next rs ss i s h.1 (omega arith) e

pub beside_left : (rules : List PlainRule) (ss : List LeftSide) (i : ℕ) (s : LeftSide) → AreLeftSides rules ss → i < length ss → s ≡ get_or ss i s → BesideLeft rules i s
beside_left rules ss i s h l e =
    let b = beside_left_next rules ss i s h l e in
    record { rest = b.0 ∙ ap (λ (k : ℕ). rule_at rules i ∷ drop k rules) (let q : suc i ≡ i + 1 = omega arith in q); side = b.1 }

pub none_behind : (rules : List PlainRule) (ss : List LeftSide) (i : ℕ) → AreLeftSides rules ss → length ss ≤ i → drop i rules ≡ []
none_behind [] ss zero h l = refl
none_behind [] ss (suc i) h l = refl
none_behind (r ∷ rs) [] i h l = absurd h
none_behind (r ∷ rs) (s ∷ ss) zero h l = absurd (omega arith)
none_behind (r ∷ rs) (s ∷ ss) (suc i) h l = none_behind rs ss i h.1 (omega arith)

not_less : (n p : ℕ) → p ≤ n → nat_lt n p ≡ false
not_less n p h = by (nat_lt n p) refl
  where
    by : (b : Bool) → nat_lt n p ≡ b → nat_lt n p ≡ false
    by true e = absurd (let l : n < p = grind (arith, nat_tests) in omega (arith, l, h))
    by false e = e

is_less : (n p : ℕ) → n < p → nat_lt n p ≡ true
is_less n p h = by (nat_lt n p) refl
  where
    by : (b : Bool) → nat_lt n p ≡ b → nat_lt n p ≡ true
    by true e = e
    by false e = absurd (let l : p ≤ n = ltb-false n p e in omega (arith, l, h))

module _ (rules : List PlainRule) (i p : ℕ) (s : LeftSide) (b : BesideLeft rules i s) (counted : p ≡ length s.patterns.now) where
  many : p ≡ length (rule_at rules i).pats
  many = counted ∙ left_count (rule_at rules i) s b.side

  pub widest_next : (w : ℕ) → max w (widest (drop i rules)) ≡ widest rules → max (max w p) (widest (drop (i + 1) rules)) ≡ widest rules
  widest_next w h =
      let q : widest (drop i rules) ≡ max p (widest (drop (i + 1) rules)) = ap widest b.rest ∙ ap (λ (k : ℕ). max k (widest (drop (i + 1) rules))) (flip many) in
      omega (arith, q, h)

  pub wider : (n w whole : ℕ) → p ≤ n → max w (width n (drop i rules)) ≡ whole → max (max w p) (width n (drop (i + 1) rules)) ≡ whole
  wider n w whole l h =
      let q : width n (drop i rules) ≡ max p (width n (drop (i + 1) rules)) =
      ap (width n) b.rest
      ∙ ap (λ (x : Bool). if x then width n (drop (i + 1) rules) else max (length (rule_at rules i).pats) (width n (drop (i + 1) rules))) (not_less n (length (rule_at rules i).pats) (omega (arith, many, l)))
      ∙ ap (λ (k : ℕ). max k (width n (drop (i + 1) rules))) (flip many) in
      omega (arith, q, h)

  pub as_wide : (n w whole : ℕ) → n < p → max w (width n (drop i rules)) ≡ whole → max w (width n (drop (i + 1) rules)) ≡ whole
  as_wide n w whole l h =
      let q : width n (drop i rules) ≡ width n (drop (i + 1) rules) =
      ap (width n) b.rest
      ∙ ap (λ (x : Bool). if x then width n (drop (i + 1) rules) else max (length (rule_at rules i).pats) (width n (drop (i + 1) rules))) (is_less n (length (rule_at rules i).pats) (omega (arith, many, l))) in
      omega (arith, q, h)

  module _ (n w : ℕ) (rows : List Row) (whole : List PlainRow) (h : map (row rules) rows ++ rows_for n w (drop i rules) ≡ whole) where
    abbrev when : Bool → List PlainRow
    when x = if x then rows_for n w (drop (i + 1) rules) else record { cells = first_cells w (rule_at rules i); rule = rule_at rules i } ∷ rows_for n w (drop (i + 1) rules)

    pub row_added : (new : List Row) (y : Row) → p ≤ n → map plain_cell y.cells.items ≡ map pattern_cell s.patterns.now ++ replicate (w - p) blank → y.at ≡ i
        → new ≡ rows ++ (y ∷ []) → map (row rules) new ++ rows_for n w (drop (i + 1) rules) ≡ whole
    row_added new y l c q k =
        let next : rows_for n w (drop i rules) ≡ record { cells = first_cells w (rule_at rules i); rule = rule_at rules i } ∷ rows_for n w (drop (i + 1) rules) =
        ap (rows_for n w) b.rest ∙ ap when (not_less n (length (rule_at rules i).pats) (omega (arith, many, l))) in
        let cells : map plain_cell y.cells.items ≡ first_cells w (rule_at rules i) =
        c ∙ (λ j. b.side.patterns j ++ replicate (w - many j) blank) in
        ap (λ (l : List Row). map (row rules) l ++ rows_for n w (drop (i + 1) rules)) k
        ∙ ap (λ (l : List PlainRow). l ++ rows_for n w (drop (i + 1) rules)) (map-append (row rules) rows (y ∷ []))
        ∙ append_assoc (map (row rules) rows) (row rules y ∷ []) (rows_for n w (drop (i + 1) rules))
        ∙ ap (λ (l : List PlainRow). map (row rules) rows ++ l) ((λ j. record { cells = cells j; rule = rule_at rules (q j) } ∷ rows_for n w (drop (i + 1) rules)) ∙ flip next)
        ∙ h

    pub row_passed : n < p → map (row rules) rows ++ rows_for n w (drop (i + 1) rules) ≡ whole
    row_passed l =
        let next : rows_for n w (drop i rules) ≡ rows_for n w (drop (i + 1) rules) =
        ap (rows_for n w) b.rest ∙ ap when (is_less n (length (rule_at rules i).pats) (omega (arith, many, l))) in
        ap (λ (l : List PlainRow). map (row rules) rows ++ l) (flip next) ∙ h

append_none : {A : Type 0} (xs : List A) → xs ++ [] ≡ xs
append_none [] = refl
append_none (x ∷ xs) = ap (λ r. x ∷ r) (append_none xs)

pub all_rows : (rules : List PlainRule) (ss : List LeftSide) (i n w : ℕ) (rows : List Row) (whole : List PlainRow) → AreLeftSides rules ss → length ss ≤ i
    → map (row rules) rows ++ rows_for n w (drop i rules) ≡ whole → map (row rules) rows ≡ whole
all_rows rules ss i n w rows whole a l h =
    flip (append_none (map (row rules) rows)) ∙ ap (λ (rs : List PlainRule). map (row rules) rows ++ rows_for n w rs) (flip (none_behind rules ss i a l)) ∙ h

pub has_variables : (rules : List PlainRule) (ss : List LeftSide) (i : ℕ) (s : LeftSide) → AreLeftSides rules ss → i < length ss → s ≡ get_or ss i s → HasVariables rules i s.vars
has_variables rules ss i s a l e =
    let q : length ss ≡ length rules = as_many rules ss a in record { there = omega (arith, q, l); is = (beside_left rules ss i s a l e).side.vars }

-- rows of all rules, none of which has more patterns than cells

abbrev pub fresh : ℕ → PlainRule → PlainRow
fresh w r = record { cells = first_cells w r; rule = r }

all_fit : (rules : List PlainRule) (n w : ℕ) → widest rules ≤ n → rows_for n w rules ≡ map (fresh w) rules
all_fit [] n w l = refl
all_fit (r ∷ rules) n w l =
    ap (λ (x : Bool). if x then rows_for n w rules else fresh w r ∷ rows_for n w rules) (not_less n (length r.pats) (omega (arith, l)))
    ∙ ap (λ (k : List PlainRow). fresh w r ∷ k) (all_fit rules n w (omega (arith, l)))

got_map : {A B : Type 0} (f : A → B) (xs : List A) (i : ℕ) → slice_get (map f xs) i ≡ option_map f (slice_get xs i)
got_map f [] i = refl
got_map f (x ∷ xs) zero = refl
got_map f (x ∷ xs) (suc i) = got_map f xs i

got_past : {A : Type 0} (xs : List A) (i : ℕ) → length xs ≤ i → slice_get xs i ≡ None
got_past [] i l = refl
got_past (x ∷ xs) zero l = absurd (omega (arith, l))
got_past (x ∷ xs) (suc i) l = got_past xs i (omega (arith, l))

got_rule : (rules : List PlainRule) (i : ℕ) → i < length rules → slice_get rules i ≡ Some (rule_at rules i)
got_rule [] i l = absurd (omega (arith, l))
got_rule (r ∷ rules) zero l = refl
got_rule (r ∷ rules) (suc i) l = got_rule rules i (omega (arith, l))

module _ (rules : List PlainRule) (ss : List LeftSide) (w i : ℕ) (a : AreLeftSides rules ss) (fits : widest rules ≤ w) where
  pub whole_missing : length ss ≤ i → slice_get (rows_for w w rules) i ≡ None
  whole_missing l =
      ap (λ (k : List PlainRow). slice_get k i) (all_fit rules w w fits) ∙ got_map (fresh w) rules i
      ∙ ap (option_map (fresh w)) (got_past rules i (let q : length ss ≡ length rules = as_many rules ss a in omega (arith, q, l)))

  module _ (s : LeftSide) (l : i < length ss) (is : s ≡ get_or ss i s) where
    pub whole_there : slice_get (rows_for w w rules) i ≡ Some (fresh w (rule_at rules i))
    whole_there =
        ap (λ (k : List PlainRow). slice_get k i) (all_fit rules w w fits) ∙ got_map (fresh w) rules i
        ∙ ap (option_map (fresh w)) (got_rule rules i (let q : length ss ≡ length rules = as_many rules ss a in omega (arith, q, l)))

    pub fresh_cells : map pattern_cell s.patterns.now ++ replicate (w - length s.patterns.now) blank ≡ first_cells w (rule_at rules i)
    fresh_cells = let b = beside_left rules ss i s a l is in (λ j. b.side.patterns j ++ replicate (w - left_count (rule_at rules i) s b.side j) blank)

    pub fresh_row : (y : Row) → map plain_cell y.cells.items ≡ map pattern_cell s.patterns.now ++ replicate (w - length s.patterns.now) blank → y.at ≡ i → row rules y ≡ fresh w (rule_at rules i)
    fresh_row y c k = λ j. record { cells = (c ∙ fresh_cells) j; rule = rule_at rules (k j) }

    module _ (key : Key) (col : ℕ) (kept : List Row) (all : List PlainRow) (h : map (row rules) kept ++ rows_by key col (drop i (rows_for w w rules)) ≡ all) where
      abbrev rest : List PlainRow
      rest = drop (i + 1) (rows_for w w rules)

      abbrev when_kept : Bool → List PlainRow
      when_kept b = if b then record { cells = cells_when_kept (parts key) col (first_cells w (rule_at rules i)); rule = rule_at rules i } ∷ rows_by key col rest else rows_by key col rest

      opened : rows_by key col (drop i (rows_for w w rules)) ≡ when_kept (is_kept key (cell_at (first_cells w (rule_at rules i)) col))
      opened = ap (rows_by key col) (next_there (rows_for w w rules) i (fresh w (rule_at rules i)) whole_there)

      pub whole_dropped : is_kept key (cell_at (map pattern_cell s.patterns.now ++ replicate (w - length s.patterns.now) blank) col) ≡ false
          → map (row rules) kept ++ rows_by key col (drop (i + 1) (rows_for w w rules)) ≡ all
      whole_dropped e =
          ap (λ (k : List PlainRow). map (row rules) kept ++ k)
          (flip (opened ∙ ap when_kept (ap (λ (cs : List Cell). is_kept key (cell_at cs col)) (flip fresh_cells) ∙ e))) ∙ h

      pub whole_kept : (x y : Row) (new : List Row) → is_kept key (cell_at (map pattern_cell s.patterns.now ++ replicate (w - length s.patterns.now) blank) col) ≡ true
          → map plain_cell x.cells.items ≡ map pattern_cell s.patterns.now ++ replicate (w - length s.patterns.now) blank → x.at ≡ i
          → map plain_cell y.cells.items ≡ cells_when_kept (parts key) col (map plain_cell x.cells.items) → y.at ≡ x.at → new ≡ kept ++ (y ∷ [])
          → map (row rules) new ++ rows_by key col (drop (i + 1) (rows_for w w rules)) ≡ all
      whole_kept x y new e c k d q p =
          ap (λ (m : List Row). map (row rules) m ++ rows_by key col rest) p
          ∙ ap (λ (m : List PlainRow). m ++ rows_by key col rest) (map-append (row rules) kept (y ∷ []))
          ∙ append_assoc (map (row rules) kept) (row rules y ∷ []) (rows_by key col rest)
          ∙ ap (λ (m : List PlainRow). map (row rules) kept ++ m)
          ((λ j. record { cells = (d ∙ ap (cells_when_kept (parts key) col) (c ∙ fresh_cells)) j; rule = rule_at rules ((q ∙ k) j) } ∷ rows_by key col rest)
          ∙ flip (opened ∙ ap when_kept (ap (λ (cs : List Cell). is_kept key (cell_at cs col)) (flip fresh_cells) ∙ e)))
          ∙ h

pub whole_done : (rules : List PlainRule) (ss : List LeftSide) (w i : ℕ) (key : Key) (col : ℕ) (kept : List Row) (all : List PlainRow) → AreLeftSides rules ss → widest rules ≤ w → length ss ≤ i
    → map (row rules) kept ++ rows_by key col (drop i (rows_for w w rules)) ≡ all → map (row rules) kept ≡ all
whole_done rules ss w i key col kept all a fits l h =
    flip (append_none (map (row rules) kept))
    ∙ ap (λ (k : List PlainRow). map (row rules) kept ++ rows_by key col k) (flip (none_there (rows_for w w rules) i (whole_missing rules ss w i a fits l))) ∙ h

-- what a left side asks of a column

pub pattern_at : (ps : List (Pat Stored)) (n i : ℕ) (p : Pat Stored) → i < length ps → p ≡ get_or ps i p → pattern_cell p ≡ cell_at (map pattern_cell ps ++ replicate n blank) i
pattern_at [] n i p l e = absurd (omega (arith, l))
pattern_at (x ∷ ps) n zero p l e = ap pattern_cell e
pattern_at (x ∷ ps) n (suc i) p l e = pattern_at ps n i p (omega (arith, l)) e

blank_at : (n i : ℕ) → blank ≡ cell_at (replicate n blank) i
blank_at zero i = refl
blank_at (suc n) zero = refl
blank_at (suc n) (suc i) = blank_at n i

pub blank_behind : (ps : List (Pat Stored)) (n i : ℕ) → length ps ≤ i → blank ≡ cell_at (map pattern_cell ps ++ replicate n blank) i
blank_behind [] n i l = blank_at n i
blank_behind (x ∷ ps) n zero l = absurd (omega (arith, l))
blank_behind (x ∷ ps) n (suc i) l = blank_behind ps n i (omega (arith, l))

-- left sides put together

pub left_side : (r : PlainRule) (s : LeftSide) → map stored_pattern s.patterns.now ≡ r.pats → s.vars ≡ r.vars → IsLeftSide r s
left_side r s e v = record { patterns = flip (each_cell s.patterns.now) ∙ ap (map cell) e; vars = v }

left_pushed : (rs : List PlainRule) (ss : List LeftSide) (r : PlainRule) (s : LeftSide) → AreLeftSides rs ss → IsLeftSide r s → AreLeftSides (rs ++ (r ∷ [])) (ss ++ (s ∷ []))
left_pushed [] [] r s h k = (k, tt)
left_pushed [] (x ∷ ss) r s h k = absurd h
left_pushed (x ∷ rs) [] r s h k = absurd h
left_pushed (x ∷ rs) (y ∷ ss) r s h k = (h.0, left_pushed rs ss r s h.1 k)

one_more : (rules : List PlainRule) (i : ℕ) (r : PlainRule) → slice_get rules i ≡ Some r → take (suc i) rules ≡ take i rules ++ (r ∷ [])
one_more [] i r e = cc
one_more (x ∷ rules) zero r e = let q : x ≡ r = cc in ap (λ z. z ∷ []) q
one_more (x ∷ rules) (suc i) r e = ap (λ l. x ∷ l) (one_more rules i r e)

pub next_left_side : (rules : List PlainRule) (ss new : List LeftSide) (i : ℕ) (r : PlainRule) (s : LeftSide) → AreLeftSides (take i rules) ss → slice_get rules i ≡ Some r → IsLeftSide r s
    → new ≡ ss ++ (s ∷ []) → AreLeftSides (take (i + 1) rules) new
next_left_side rules ss new i r s a e k q =
    let more : take (i + 1) rules ≡ take i rules ++ (r ∷ []) = ap (λ (j : ℕ). take j rules) (let h : i + 1 ≡ suc i = omega arith in h) ∙ one_more rules i r e in
    subst (λ (l : List PlainRule). AreLeftSides l new) (flip more) (subst (λ (l : List LeftSide). AreLeftSides (take i rules ++ (r ∷ [])) l) (flip q) (left_pushed (take i rules) ss r s a k))

all_taken : (rules : List PlainRule) (n : ℕ) → length rules ≤ n → take n rules ≡ rules
all_taken [] zero l = refl
all_taken [] (suc n) l = refl
all_taken (r ∷ rules) zero l = absurd (omega (arith, l))
all_taken (r ∷ rules) (suc n) l = ap (λ k. r ∷ k) (all_taken rules n (omega (arith, l)))

pub left_sides_all : (rules : List PlainRule) (ss : List LeftSide) (n : ℕ) → length rules ≤ n → AreLeftSides (take n rules) ss → AreLeftSides rules ss
left_sides_all rules ss n l a = subst (λ (k : List PlainRule). AreLeftSides k ss) (all_taken rules n l) a
