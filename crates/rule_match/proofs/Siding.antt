-- Left sides beside their rules, and the rows made of them.
use Rattle.std.proofs.Common.{List, [], ◌∷◌, ◌++◌, ◌≡◌, ◌≤◌, ◌<◌, ◌+◌, ◌-◌, max, ℕ, zero, suc, Bool, true, false, refl, ap, ◌∙◌, sym as flip, subst, arith, map, drop, take, length, get_or, append_assoc, nat_lt}
use Rattle.std.proofs.lemmas.List.{map-append, length-map}
use Rattle.std.specs.Prelude.{replicate, if◌then◌else◌}
use Rattle.std.proofs.lemmas.Bool.{ltb-false}
use Rattle.std.proofs.lemmas.Bool.Decides.{nat_tests}
use Rattle.dk_model.specs.Signatures.{PlainRule}
use Rattle.dk_model.specs.Matrix.{blank, cell, first_cells, rows_for, width}
use Rattle.dk_model.specs.Matrix.{Row as PlainRow}
use Rattle.rule_match.specs.declared.branch.Node.{Node}
use Rattle.rule_match.specs.declared.cell.Row.{Row}
use Rattle.rule_match.specs.declared.side.Side.{Side}
use Rattle.rule_match.specs.declared.walk.LeftSide.{LeftSide}
use Rattle.rule_match.specs.Rows.{kept_cell, plain_cell, row, rule_at}
use Rattle.rule_match.specs.Sides.{IsSide, AreSides, AreLeftSides, IsCopy, AreCopies, widest}
use Rattle.rule_match.specs.Branches.{AddsRows}

pub copy_pushed : (ls : List LeftSide) (ss : List Side) (l : LeftSide) (s : Side) → AreCopies ls ss → IsCopy l s → AreCopies (ls ++ (l ∷ [])) (ss ++ (s ∷ []))
copy_pushed [] [] l s h k = (k, tt)
copy_pushed [] (x ∷ ss) l s h k = absurd h
copy_pushed (x ∷ ls) [] l s h k = absurd h
copy_pushed (x ∷ ls) (y ∷ ss) l s h k = (h.0, copy_pushed ls ss l s h.1 k)

pub sides_copied : (rs : List PlainRule) (ls : List LeftSide) (ss : List Side) → AreCopies ls ss → AreLeftSides rs ls → AreSides rs ss
sides_copied [] [] [] h k = tt
sides_copied [] [] (s ∷ ss) h k = absurd h
sides_copied [] (l ∷ ls) ss h k = absurd k
sides_copied (r ∷ rs) [] ss h k = absurd k
sides_copied (r ∷ rs) (l ∷ ls) [] h k = absurd h
sides_copied (r ∷ rs) (l ∷ ls) (s ∷ ss) h k = (record { patterns = h.0.0 ∙ k.0.patterns; vars = h.0.1 ∙ k.0.vars }, sides_copied rs ls ss h.1 k.1)

pub side_count : (r : PlainRule) (s : Side) → IsSide r s → length s.patterns.items ≡ length r.pats
side_count r s h = flip (length-map s.patterns.items kept_cell) ∙ ap length h.patterns ∙ length-map r.pats cell

pub as_many : (rs : List PlainRule) (ss : List Side) → AreSides rs ss → length ss ≡ length rs
as_many [] [] h = refl
as_many [] (s ∷ ss) h = absurd h
as_many (r ∷ rs) [] h = absurd h
as_many (r ∷ rs) (s ∷ ss) h = ap suc (as_many rs ss h.1)

-- the rule at a place with its left side
pub record Beside (rules : List PlainRule) (i : ℕ) (s : Side) : Type 0 where
  pub rest : drop i rules ≡ rule_at rules i ∷ drop (i + 1) rules
  pub side : IsSide (rule_at rules i) s

beside_next : (rules : List PlainRule) (ss : List Side) (i : ℕ) (s : Side) → AreSides rules ss → i < length ss → s ≡ get_or ss i s
    → (drop i rules ≡ rule_at rules i ∷ drop (suc i) rules) × IsSide (rule_at rules i) s
beside_next [] [] i s h l e = absurd (omega arith)
beside_next [] (t ∷ ss) i s h l e = absurd h
beside_next (r ∷ rs) [] i s h l e = absurd h
beside_next (r ∷ rs) (t ∷ ss) zero s h l e = (refl, subst (λ (x : Side). IsSide r x) (flip e) h.0)
beside_next (r ∷ rs) (t ∷ ss) (suc i) s h l e = beside_next rs ss i s h.1 (omega arith) e

pub beside : (rules : List PlainRule) (ss : List Side) (i : ℕ) (s : Side) → AreSides rules ss → i < length ss → s ≡ get_or ss i s → Beside rules i s
beside rules ss i s h l e =
    let b = beside_next rules ss i s h l e in
    record { rest = b.0 ∙ ap (λ (k : ℕ). rule_at rules i ∷ drop k rules) (let q : suc i ≡ i + 1 = omega arith in q); side = b.1 }

pub none_behind : (rules : List PlainRule) (ss : List Side) (i : ℕ) → AreSides rules ss → length ss ≤ i → drop i rules ≡ []
none_behind [] ss zero h l = refl
none_behind [] ss (suc i) h l = refl
none_behind (r ∷ rs) [] i h l = absurd h
none_behind (r ∷ rs) (s ∷ ss) zero h l = absurd (omega arith)
none_behind (r ∷ rs) (s ∷ ss) (suc i) h l = none_behind rs ss i h.1 (omega arith)

not_less : (n p : ℕ) → p ≤ n → nat_lt n p ≡ false
not_less n p h = by (nat_lt n p) refl
  where
    by : (b : Bool) → nat_lt n p ≡ b → nat_lt n p ≡ false
    by true e = absurd (let l : n < p = grind (arith, nat_tests) in omega (arith, l, h))
    by false e = e

is_less : (n p : ℕ) → n < p → nat_lt n p ≡ true
is_less n p h = by (nat_lt n p) refl
  where
    by : (b : Bool) → nat_lt n p ≡ b → nat_lt n p ≡ true
    by true e = e
    by false e = absurd (let l : p ≤ n = ltb-false n p e in omega (arith, l, h))

module _ (rules : List PlainRule) (i p : ℕ) (s : Side) (b : Beside rules i s) (counted : p ≡ length s.patterns.items) where
  many : p ≡ length (rule_at rules i).pats
  many = counted ∙ side_count (rule_at rules i) s b.side

  pub widest_next : (w : ℕ) → max w (widest (drop i rules)) ≡ widest rules → max (max w p) (widest (drop (i + 1) rules)) ≡ widest rules
  widest_next w h =
      let q : widest (drop i rules) ≡ max p (widest (drop (i + 1) rules)) = ap widest b.rest ∙ ap (λ (k : ℕ). max k (widest (drop (i + 1) rules))) (flip many) in
      omega (arith, q, h)

  pub wider : (n w whole : ℕ) → p ≤ n → max w (width n (drop i rules)) ≡ whole → max (max w p) (width n (drop (i + 1) rules)) ≡ whole
  wider n w whole l h =
      let q : width n (drop i rules) ≡ max p (width n (drop (i + 1) rules)) =
      ap (width n) b.rest
      ∙ ap (λ (x : Bool). if x then width n (drop (i + 1) rules) else max (length (rule_at rules i).pats) (width n (drop (i + 1) rules))) (not_less n (length (rule_at rules i).pats) (omega (arith, many, l)))
      ∙ ap (λ (k : ℕ). max k (width n (drop (i + 1) rules))) (flip many) in
      omega (arith, q, h)

  pub as_wide : (n w whole : ℕ) → n < p → max w (width n (drop i rules)) ≡ whole → max w (width n (drop (i + 1) rules)) ≡ whole
  as_wide n w whole l h =
      let q : width n (drop i rules) ≡ width n (drop (i + 1) rules) =
      ap (width n) b.rest
      ∙ ap (λ (x : Bool). if x then width n (drop (i + 1) rules) else max (length (rule_at rules i).pats) (width n (drop (i + 1) rules))) (is_less n (length (rule_at rules i).pats) (omega (arith, many, l))) in
      omega (arith, q, h)

  module _ (n w : ℕ) (rows : List Row) (whole : List PlainRow) (h : map (row rules) rows ++ rows_for n w (drop i rules) ≡ whole) where
    abbrev when : Bool → List PlainRow
    when x = if x then rows_for n w (drop (i + 1) rules) else record { cells = first_cells w (rule_at rules i); rule = rule_at rules i } ∷ rows_for n w (drop (i + 1) rules)

    pub row_added : (new : List Row) (y : Row) → p ≤ n → map plain_cell y.cells.items ≡ map kept_cell s.patterns.items ++ replicate (w - p) blank → y.at ≡ i
        → new ≡ rows ++ (y ∷ []) → map (row rules) new ++ rows_for n w (drop (i + 1) rules) ≡ whole
    row_added new y l c q k =
        let next : rows_for n w (drop i rules) ≡ record { cells = first_cells w (rule_at rules i); rule = rule_at rules i } ∷ rows_for n w (drop (i + 1) rules) =
        ap (rows_for n w) b.rest ∙ ap when (not_less n (length (rule_at rules i).pats) (omega (arith, many, l))) in
        let cells : map plain_cell y.cells.items ≡ first_cells w (rule_at rules i) =
        c ∙ (λ j. b.side.patterns j ++ replicate (w - many j) blank) in
        ap (λ (l : List Row). map (row rules) l ++ rows_for n w (drop (i + 1) rules)) k
        ∙ ap (λ (l : List PlainRow). l ++ rows_for n w (drop (i + 1) rules)) (map-append (row rules) rows (y ∷ []))
        ∙ append_assoc (map (row rules) rows) (row rules y ∷ []) (rows_for n w (drop (i + 1) rules))
        ∙ ap (λ (l : List PlainRow). map (row rules) rows ++ l) ((λ j. record { cells = cells j; rule = rule_at rules (q j) } ∷ rows_for n w (drop (i + 1) rules)) ∙ flip next)
        ∙ h

    pub row_passed : n < p → map (row rules) rows ++ rows_for n w (drop (i + 1) rules) ≡ whole
    row_passed l =
        let next : rows_for n w (drop i rules) ≡ rows_for n w (drop (i + 1) rules) =
        ap (rows_for n w) b.rest ∙ ap when (is_less n (length (rule_at rules i).pats) (omega (arith, many, l))) in
        ap (λ (l : List PlainRow). map (row rules) rows ++ l) (flip next) ∙ h

append_none : {A : Type 0} (xs : List A) → xs ++ [] ≡ xs
append_none [] = refl
append_none (x ∷ xs) = ap (λ r. x ∷ r) (append_none xs)

pub all_rows : (rules : List PlainRule) (ss : List Side) (i n w : ℕ) (rows : List Row) (whole : List PlainRow) → AreSides rules ss → length ss ≤ i
    → map (row rules) rows ++ rows_for n w (drop i rules) ≡ whole → map (row rules) rows ≡ whole
all_rows rules ss i n w rows whole a l h =
    flip (append_none (map (row rules) rows)) ∙ ap (λ (rs : List PlainRule). map (row rules) rows ++ rows_for n w rs) (flip (none_behind rules ss i a l)) ∙ h

-- before at least as many arguments as the widest rule has patterns the rows are the same

pub width_full : (rules : List PlainRule) (n : ℕ) → widest rules ≤ n → width n rules ≡ widest rules
width_full [] n h = refl
width_full (r ∷ rs) n h =
    ap (λ (x : Bool). if x then width n rs else max (length r.pats) (width n rs)) (not_less n (length r.pats) (omega (arith, h)))
    ∙ ap (max (length r.pats)) (width_full rs n (omega (arith, h)))

pub rows_full : (rules : List PlainRule) (m n w : ℕ) → widest rules ≤ m → widest rules ≤ n → rows_for m w rules ≡ rows_for n w rules
rows_full [] m n w h k = refl
rows_full (r ∷ rs) m n w h k =
    ap (λ (x : Bool). if x then rows_for m w rs else record { cells = first_cells w r; rule = r } ∷ rows_for m w rs) (not_less m (length r.pats) (omega (arith, h)))
    ∙ ap (λ (l : List PlainRow). record { cells = first_cells w r; rule = r } ∷ l) (rows_full rs m n w (omega (arith, h)) (omega (arith, k)))
    ∙ flip (ap (λ (x : Bool). if x then rows_for n w rs else record { cells = first_cells w r; rule = r } ∷ rows_for n w rs) (not_less n (length r.pats) (omega (arith, k))))

pub root_added : (rules : List PlainRule) (old new : List Node) (rows rows' : List PlainRow) (i : ℕ) → rows ≡ rows' → AddsRows rules old new rows i → AddsRows rules old new rows' i
root_added rules old new rows rows' i e a = subst (λ (l : List PlainRow). AddsRows rules old new l i) e a

take_here : {A : Type 0} (xs : List A) (i : ℕ) (x : A) → i < length xs → x ≡ get_or xs i x → take (suc i) xs ≡ take i xs ++ (x ∷ [])
take_here [] i x l e = absurd (omega arith)
take_here (y ∷ xs) zero x l e = ap (λ z. z ∷ []) (flip e)
take_here (y ∷ xs) (suc i) x l e = ap (λ r. y ∷ r) (take_here xs i x (omega arith) e)

pub take_next : {A : Type 0} (xs : List A) (i : ℕ) (x : A) → i < length xs → x ≡ get_or xs i x → take (i + 1) xs ≡ take i xs ++ (x ∷ [])
take_next xs i x l e = ap (λ (k : ℕ). take k xs) (let q : i + 1 ≡ suc i = omega arith in q) ∙ take_here xs i x l e
