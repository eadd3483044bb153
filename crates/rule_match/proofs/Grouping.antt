-- The rows that are kept for a head are among those that may be kept for one on its side of a pivot.
use Rattle.std.proofs.Common.{List, [], ◌∷◌, ◌++◌, ◌≡◌, ◌+◌, ◌<◌, ◌≤◌, ℕ, zero, suc, Some, None, Bool, true, false, map, take, drop, get_or, append_assoc, refl, ap, subst, ◌∙◌, sym as flip, arith, length}
use Rattle.std.proofs.lemmas.List.{map-append, drop_more}
use Rattle.std.proofs.lemmas.Bool.{eqb-true}
use Rattle.std.proofs.Math.Bool.{beq}
use Rattle.std.specs.Prelude.{◌&&◌, not, eqb, slice_get, if◌then◌else◌}
use Rattle.dk_model.specs.Signatures.{PlainRule}
use Rattle.dk_model.specs.Matrix.{cell_at}
use Rattle.dk_model.specs.Matrix.{Row as PlainRow}
use Rattle.rule_match.specs.declared.cell.Row.{Row}
use Rattle.rule_match.specs.declared.group.Group.{Group}
use Rattle.dk_model.specs.declared.signature.Pat.{Pat}
use Rattle.dk_model.specs.declared.signature.Pat.TheVariants.{Sym, Var}
use Rattle.shared_term.specs.declared.stored.Stored.{Stored}
use Rattle.rule_match.specs.declared.key.Key.{Key}
use Rattle.rule_match.specs.declared.key.Key.TheVariants.{Symbol, Variable, Abstraction, Other}
use Rattle.rule_match.specs.Keys.{is_kept, has_symbol, has_variable, has_abstraction, comes_before, cells_when_kept, parts, rows_by}
use Rattle.rule_match.specs.Rows.{row, pattern_cell}
use Rattle.rule_match.proofs.Refining.{takes_symbol, takes_variable}
use Rattle.rule_match.specs.Groups.{KeepSame, AreBeside, AreGroups}

-- the one head for which a cell is kept

both : (a b : Bool) → (a && b) ≡ true → (a ≡ true) × (b ≡ true)
both true true e = (refl, refl)
both true false e = absurd (let z : false ≡ true = e in cc)
both false b e = absurd (let z : false ≡ true = e in cc)

is_symbol : (key : Key) (k n : ℕ) → has_symbol key k n ≡ true → key ≡ Symbol k n
is_symbol (Symbol j m) k n e = let b = both (eqb j k) (eqb m n) e in λ i. Symbol (eqb-true j k b.0 i) (eqb-true m n b.1 i)
is_symbol (Variable j m) k n e = absurd (let z : false ≡ true = e in cc)
is_symbol Abstraction k n e = absurd (let z : false ≡ true = e in cc)
is_symbol (Other m) k n e = absurd (let z : false ≡ true = e in cc)

is_variable : (key : Key) (k n : ℕ) → has_variable key k n ≡ true → key ≡ Variable k n
is_variable (Variable j m) k n e = let b = both (eqb j k) (eqb m n) e in λ i. Variable (eqb-true j k b.0 i) (eqb-true m n b.1 i)
is_variable (Symbol j m) k n e = absurd (let z : false ≡ true = e in cc)
is_variable Abstraction k n e = absurd (let z : false ≡ true = e in cc)
is_variable (Other m) k n e = absurd (let z : false ≡ true = e in cc)

pub is_abstraction : (key : Key) → has_abstraction key ≡ true → key ≡ Abstraction
is_abstraction Abstraction e = refl
is_abstraction (Symbol j m) e = absurd (let z : false ≡ true = e in cc)
is_abstraction (Variable j m) e = absurd (let z : false ≡ true = e in cc)
is_abstraction (Other m) e = absurd (let z : false ≡ true = e in cc)

pub asks_symbol : (key : Key) (p : Pat Stored) (k n : ℕ) (ps : List (Pat Stored)) → p ≡ Sym k ps → n ≡ length ps → is_kept key (pattern_cell p) ≡ true → key ≡ Symbol k n
asks_symbol key p k n ps e q h = is_symbol key k n (takes_symbol key p k n ps (has_symbol key k n) e q refl ∙ h)

pub asks_variable : (key : Key) (p : Pat Stored) (k n : ℕ) (ps : List (Pat Stored)) → p ≡ Var k ps → n ≡ length ps → is_kept key (pattern_cell p) ≡ true → key ≡ Variable k n
asks_variable key p k n ps e q h = is_variable key k n (takes_variable key p k n ps (has_variable key k n) e q refl ∙ h)

-- rows one after another

joined_by : (b : Bool) (y : PlainRow) (all xs ys : List PlainRow) → all ≡ xs ++ ys → (if b then y ∷ all else all) ≡ (if b then y ∷ xs else xs) ++ ys
joined_by true y all xs ys e = ap (λ (l : List PlainRow). y ∷ l) e
joined_by false y all xs ys e = e

rows_joined : (key : Key) (i : ℕ) (xs ys : List PlainRow) → rows_by key i (xs ++ ys) ≡ rows_by key i xs ++ rows_by key i ys
rows_joined key i [] ys = refl
rows_joined key i (x ∷ xs) ys =
    joined_by (is_kept key (cell_at x.cells i)) (record { cells = cells_when_kept (parts key) i x.cells; rule = x.rule }) (rows_by key i (xs ++ ys)) (rows_by key i xs) (rows_by key i ys) (rows_joined key i xs ys)

module _ (rules : List PlainRule) (key : Key) (i j : ℕ) (rows half : List Row) (x : Row) (all : List PlainRow) (lt : j < length rows) (at : x ≡ get_or rows j x)
    (h : rows_by key i (map (row rules) half) ++ rows_by key i (map (row rules) (drop j rows)) ≡ all) where
  abbrev rest : List PlainRow
  rest = map (row rules) (drop (j + 1) rows)

  next : map (row rules) (drop j rows) ≡ row rules x ∷ rest
  next = ap (map (row rules)) (drop_more rows j x lt) ∙ ap (λ (y : Row). row rules y ∷ rest) (flip at)

  pub row_goes_on : (y : Row) (new : List Row) → row rules y ≡ row rules x → new ≡ half ++ (y ∷ []) → rows_by key i (map (row rules) new) ++ rows_by key i rest ≡ all
  row_goes_on y new same is =
      ap (λ (l : List Row). rows_by key i (map (row rules) l) ++ rows_by key i rest) is
      ∙ ap (λ (l : List PlainRow). rows_by key i l ++ rows_by key i rest) (map-append (row rules) half (y ∷ []) ∙ ap (λ (r : PlainRow). map (row rules) half ++ (r ∷ [])) same)
      ∙ ap (λ (l : List PlainRow). l ++ rows_by key i rest) (rows_joined key i (map (row rules) half) (row rules x ∷ []))
      ∙ append_assoc (rows_by key i (map (row rules) half)) (rows_by key i (row rules x ∷ [])) (rows_by key i rest)
      ∙ ap (λ (l : List PlainRow). rows_by key i (map (row rules) half) ++ l) (flip (rows_joined key i (row rules x ∷ []) rest) ∙ flip (ap (rows_by key i) next))
      ∙ h

  abbrev when : Bool → List PlainRow
  when b = if b then record { cells = cells_when_kept (parts key) i (row rules x).cells; rule = (row rules x).rule } ∷ rows_by key i rest else rows_by key i rest

  pub row_left_out : (may : Bool) → may ≡ false → (is_kept key (cell_at (row rules x).cells i) ≡ true → may ≡ true) → rows_by key i (map (row rules) half) ++ rows_by key i rest ≡ all
  row_left_out may out f = by (is_kept key (cell_at (row rules x).cells i)) refl
    where
      by : (b : Bool) → is_kept key (cell_at (row rules x).cells i) ≡ b → rows_by key i (map (row rules) half) ++ rows_by key i rest ≡ all
      by true e = absurd (let q : true ≡ false = flip (f e) ∙ out in cc)
      by false e = ap (λ (l : List PlainRow). rows_by key i (map (row rules) half) ++ l) (flip (ap (rows_by key i) next ∙ ap when e)) ∙ h

pub all_halved : (rules : List PlainRule) (key : Key) (i : ℕ) (rows half : List Row) (j : ℕ) (all : List PlainRow) → length rows ≤ j
    → rows_by key i (map (row rules) half) ++ rows_by key i (map (row rules) (drop j rows)) ≡ all → rows_by key i (map (row rules) half) ≡ all
all_halved rules key i rows half j all l h =
    flip (append_none (rows_by key i (map (row rules) half))) ∙ ap (λ (r : List Row). rows_by key i (map (row rules) half) ++ rows_by key i (map (row rules) r)) (flip (drop_past rows j l)) ∙ h
  where
    append_none : {A : Type 0} (xs : List A) → xs ++ [] ≡ xs
    append_none [] = refl
    append_none (x ∷ xs) = ap (λ r. x ∷ r) (append_none xs)

    drop_past : {A : Type 0} (xs : List A) (n : ℕ) → length xs ≤ n → drop n xs ≡ []
    drop_past [] zero h = refl
    drop_past [] (suc n) h = refl
    drop_past (x ∷ xs) zero h = absurd (omega arith)
    drop_past (x ∷ xs) (suc n) h = drop_past xs n (omega arith)

-- heads beside a pivot

pub on_side : (a b : Bool) → not (beq a b) ≡ false → a ≡ b
on_side true true e = refl
on_side true false e = absurd (let z : true ≡ false = e in cc)
on_side false true e = absurd (let z : true ≡ false = e in cc)
on_side false false e = refl

beside_next : (pivot : Key) (before : Bool) (ks : List Key) (i : ℕ) (d : Key) → i < length ks → AreBeside pivot before (take i ks) → comes_before (get_or ks i d) pivot ≡ before
    → AreBeside pivot before (take (suc i) ks)
beside_next pivot before [] i d l h e = absurd (omega arith)
beside_next pivot before (k ∷ ks) zero d l h e = (e, tt)
beside_next pivot before (k ∷ ks) (suc i) d l h e = (h.0, beside_next pivot before ks i d (omega arith) h.1 e)

pub beside_more : (pivot : Key) (before : Bool) (ks : List Key) (i : ℕ) (d : Key) → i < length ks → AreBeside pivot before (take i ks) → comes_before (get_or ks i d) pivot ≡ before
    → AreBeside pivot before (take (i + 1) ks)
beside_more pivot before ks i d l h e = subst (λ (n : ℕ). AreBeside pivot before (take n ks)) (let q : suc i ≡ i + 1 = omega arith in q) (beside_next pivot before ks i d l h e)

-- the same is kept for heads of one side in the half of that side

pub same_in_half : (pivot : Key) (before : Bool) (ks : List Key) (i : ℕ) (half some all : List PlainRow) → AreBeside pivot before ks
    → ((key : Key) → comes_before key pivot ≡ before → rows_by key i half ≡ rows_by key i some) → KeepSame ks i some all → KeepSame ks i half all
same_in_half pivot before [] i half some all b f h = tt
same_in_half pivot before (k ∷ ks) i half some all b f h = (f k b.0 ∙ h.0, same_in_half pivot before ks i half some all b.1 f h.1)

pub same_first : (ks : List Key) (n i : ℕ) (some all : List PlainRow) → KeepSame ks i some all → KeepSame (take n ks) i some all
same_first [] zero i some all h = tt
same_first [] (suc n) i some all h = tt
same_first (k ∷ ks) zero i some all h = tt
same_first (k ∷ ks) (suc n) i some all h = (h.0, same_first ks n i some all h.1)

pub same_last : (ks : List Key) (n i : ℕ) (some all : List PlainRow) → KeepSame ks i some all → KeepSame (drop n ks) i some all
same_last [] zero i some all h = tt
same_last [] (suc n) i some all h = tt
same_last (k ∷ ks) zero i some all h = h
same_last (k ∷ ks) (suc n) i some all h = same_last ks n i some all h.1

pub same_all : (ks : List Key) (i : ℕ) (all : List PlainRow) → KeepSame ks i all all
same_all [] i all = tt
same_all (k ∷ ks) i all = (refl, same_all ks i all)

pub same_for_first : (ks : List Key) (k : Key) (i : ℕ) (some all : List PlainRow) → Some k ≡ slice_get ks 0 → KeepSame ks i some all → rows_by k i some ≡ rows_by k i all
same_for_first [] k i some all e h = absurd (let z : Some k ≡ None = e in cc)
same_for_first (x ∷ ks) k i some all e h = subst (λ (y : Key). rows_by y i some ≡ rows_by y i all) (let q : x ≡ k = cc in q) h.0

-- groups

pub group_pushed : (rules : List PlainRule) (column : ℕ) (all : List PlainRow) (gs : List Group) (g : Group) → AreGroups rules column all gs
    → map (row rules) g.rows.items ≡ rows_by g.key column all → AreGroups rules column all (gs ++ (g ∷ []))
group_pushed rules column all [] g h e = (e, tt)
group_pushed rules column all (x ∷ gs) g h e = (h.0, group_pushed rules column all gs g h.1 e)

pub group_at : (rules : List PlainRule) (column : ℕ) (all : List PlainRow) (gs : List Group) (i : ℕ) (g : Group) → AreGroups rules column all gs → i < length gs → g ≡ get_or gs i g
    → map (row rules) g.rows.items ≡ rows_by g.key column all
group_at rules column all [] i g h l e = absurd (omega arith)
group_at rules column all (x ∷ gs) zero g h l e = (λ k. map (row rules) (e k).rows.items) ∙ h.0 ∙ (λ k. rows_by (flip e k).key column all)
group_at rules column all (x ∷ gs) (suc i) g h l e = group_at rules column all gs i g h.1 (omega arith) e
