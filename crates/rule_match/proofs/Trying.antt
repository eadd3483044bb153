-- A row that is tried over a pool that grows.
use Rattle.std.proofs.Common.{List, [], ◌∷◌, map, length, ℕ, zero, suc, ◌≡◌, ◌+◌, ◌<◌, ◌≤◌, min, Option, Some, None, Bool, true, false, Ok, Err, Result, refl, ap, ◌∙◌, sym as flip, subst, arith, get_or}
use Rattle.std.specs.Borrow.{Bor}
use Rattle.std.specs.Prelude.{slice_set, slice_get, not, IfOk, if◌then◌else◌}
use Rattle.std.proofs.lemmas.List.{length-map}
use Rattle.dk_model.specs.Trees.{Tree}
use Rattle.dk_model.specs.Substitution.{shift}
use Rattle.dk_model.specs.Signatures.{rule_variable_pattern}
use Rattle.dk_model.specs.Units.{Units, bind}
use Rattle.dk_model.specs.Matrix.{cell, cell_at}
use Rattle.dk_model.specs.Matrix.{Cell as PlainCell, Column as PlainColumn}
use Rattle.dk_model.specs.Captures.{mentions_others, captured, Captures, capture_at, filled}
use Rattle.dk_model.specs.Selection.{PartTrial, CellTrial, RowTrial, recorded, cell_captures}
use Rattle.dk_model.specs.declared.memory.NoMemory.{NoMemory}
use Rattle.shared_term.specs.declared.id.TermId.{TermId}
use Rattle.shared_term.specs.Pools.{Node, term, Extends, Moves}
use Rattle.shared_term.specs.Storage.{stored_term}
use Rattle.shared_term.specs.Changes.{AreCaptures, captured_terms}
use Rattle.rule_match.specs.declared.cell.Cell.{Cell}
use Rattle.rule_match.specs.declared.value.Column.{Column}
use Rattle.rule_match.specs.declared.row.Step.{Step}
use Rattle.rule_match.specs.declared.row.Step.TheVariants.{Captures as Catches}
use Rattle.rule_match.specs.declared.row.Caught.{Caught}
use Rattle.rule_match.specs.declared.row.Caught.TheVariants.{On, Escapes, Compares}
use Rattle.rule_match.specs.Rows.{plain_cell}
use Rattle.rule_match.specs.Columns.{column, plain, AreColumns}
use Rattle.rule_match.specs.Standing.{passed, after_cell, cell_normal, cell_compared, guards_from, guard_compared}
use Rattle.rule_match.specs.Trying.{step_cell, ActsAs, IsGuard, HasGuard, Records, CellSteps, cell_due, column_at}
use Rattle.rule_match.specs.Trying.{AreCaught}
use Rattle.rule_match.proofs.Winding.{extends_more}
use Rattle.rule_match.proofs.Growing.{columns_grown, captures_grown, captures_set, capture_within, capture_there, capture_missing, terms_set}
use Rattle.rule_match.proofs.Through.{at_cell, goes_past, passed_all, guard_asks, guard_met, guards_met}

pub guard_made : (g : List Node × TermId) (cs : List (Option TermId)) (old mid filled_in new : List Node) (guard inside : TermId) (depth : ℕ) (result : Result TermId NoMemory)
    → AreCaptures (length old) cs → Extends old mid → term mid guard ≡ stored_term g → Moves (filled (captured_terms mid cs) 0) mid filled_in guard inside
    → IfOk result (λ r. Moves (shift 0 depth) filled_in new inside r) → IfOk result (IsGuard new g (captured_terms old cs) depth)
guard_made g cs old mid filled_in new guard inside depth (Ok r) w x e m s =
    let c = captures_grown old mid cs x w in
    (s.is ∙ ap (shift 0 depth) (m.is ∙ (λ i. filled (c i) 0 (e i))), s.there)
guard_made g cs old mid filled_in new guard inside depth (Err stop) w x e m s = tt

pub got : {A B : Type 0} (f : A → B) (xs : List A) (i : ℕ) (x : A) → i < length xs → x ≡ get_or xs i x → slice_get (map f xs) i ≡ Some (f x)
got f [] i x lt e = absurd (omega arith)
got f (y ∷ ys) zero x lt e = ap (λ z. Some (f z)) (flip e)
got f (y ∷ ys) (suc i) x lt e = got f ys i x (omega arith) e

map_get : {A B : Type 0} (f : A → B) (xs : List A) (i : ℕ) (x : A) → slice_get xs i ≡ Some x → slice_get (map f xs) i ≡ Some (f x)
map_get f [] i x e = cc
map_get f (y ∷ ys) zero x e = let q : y ≡ x = cc in ap (λ z. Some (f z)) q
map_get f (y ∷ ys) (suc i) x e = map_get f ys i x e

cell_there : (cs : List PlainCell) (i : ℕ) (c : PlainCell) → slice_get cs i ≡ Some c → cell_at cs i ≡ c
cell_there [] i c e = cc
cell_there (d ∷ cs) zero c e = cc
cell_there (d ∷ cs) (suc i) c e = cell_there cs i c e

column_there : (cs : List PlainColumn) (i : ℕ) (c : PlainColumn) → slice_get cs i ≡ Some c → column_at cs i ≡ c
column_there [] i c e = cc
column_there (d ∷ cs) zero c e = cc
column_there (d ∷ cs) (suc i) c e = column_there cs i c e

-- a step at a cell

module _ (N : ℕ → Tree → Units Tree) (C : ℕ → Tree → Tree → Units Bool) (k : ℕ) (xs : List ℕ) (col : PlainColumn) (n : ℕ) (cs : Captures) where
  abbrev after_part : PartTrial → ℕ → Units CellTrial
  after_part part n1 = let after : PlainColumn = record { depth = col.depth; term = part.term } in
      if part.fits
      then bind (recorded C n1 cs k (captured col.depth xs part.term)) (λ more n2. Some (record { captures = more; column = after }, n2))
      else Some (record { captures = None; column = after }, n1)

  pub escapes : mentions_others 0 col.depth xs col.term ≡ true
      → cell_captures N C (cell (rule_variable_pattern k xs)) col n cs ≡ bind (N n col.term) (cell_normal N C (cell (rule_variable_pattern k xs)) col cs)
  escapes e =
      ap (λ (b : Bool). bind (if b then bind (N n col.term) (λ normal n1. Some (record { term = normal; fits = not (mentions_others 0 col.depth xs normal) }, n1)) else Some (record { term = col.term; fits = true }, n)) after_part) e
      ∙ by (N n col.term)
    where
      inner : (u : Tree) (m : ℕ) (b : Bool) → mentions_others 0 col.depth xs u ≡ b
          → after_part (record { term = u; fits = not b }) m
          ≡ (if b then Some (record { captures = None; column = record { depth = col.depth; term = u } }, m) else cell_captures N C (cell (rule_variable_pattern k xs)) (record { depth = col.depth; term = u }) m cs)
      inner u m true q = refl
      inner u m false q = flip (ap (λ (b : Bool). bind (if b then bind (N m u) (λ normal n1. Some (record { term = normal; fits = not (mentions_others 0 col.depth xs normal) }, n1)) else Some (record { term = u; fits = true }, m)) after_part) q)

      by : (y : Units Tree) → bind (bind y (λ normal n1. Some (record { term = normal; fits = not (mentions_others 0 col.depth xs normal) }, n1))) after_part ≡ bind y (cell_normal N C (cell (rule_variable_pattern k xs)) col cs)
      by None = refl
      by (Some r) = inner r.0 r.1 (mentions_others 0 col.depth xs r.0) refl

  caught : mentions_others 0 col.depth xs col.term ≡ false
      → cell_captures N C (cell (rule_variable_pattern k xs)) col n cs ≡ bind (recorded C n cs k (captured col.depth xs col.term)) (λ more n2. Some (record { captures = more; column = col }, n2))
  caught e = ap (λ (b : Bool). bind (if b then bind (N n col.term) (λ normal n1. Some (record { term = normal; fits = not (mentions_others 0 col.depth xs normal) }, n1)) else Some (record { term = col.term; fits = true }, n)) after_part) e

  abbrev with_more : Units (Option Captures) → Units CellTrial
  with_more y = bind y (λ more n2. Some (record { captures = more; column = col }, n2))

  pub catches : mentions_others 0 col.depth xs col.term ≡ false → capture_at cs k ≡ None
      → cell_captures N C (cell (rule_variable_pattern k xs)) col n cs ≡ Some (record { captures = Some (slice_set cs k (Some (captured col.depth xs col.term))); column = col }, n)
  catches e q = caught e ∙ ap (λ (o : Option Tree). with_more (elim o [
    | None ↦ Some (Some (slice_set cs k (Some (captured col.depth xs col.term))), n)
    | Some before ↦ bind (C n before (captured col.depth xs col.term)) (λ alike n1. Some (if alike then Some cs else None, n1))
  ])) q

  pub compares : (before : Tree) → mentions_others 0 col.depth xs col.term ≡ false → capture_at cs k ≡ Some before
      → cell_captures N C (cell (rule_variable_pattern k xs)) col n cs ≡ bind (C n before (captured col.depth xs col.term)) (cell_compared col cs)
  compares before e q = caught e ∙ ap (λ (o : Option Tree). with_more (elim o [
    | None ↦ Some (Some (slice_set cs k (Some (captured col.depth xs col.term))), n)
    | Some t ↦ bind (C n t (captured col.depth xs col.term)) (λ alike n1. Some (if alike then Some cs else None, n1))
  ])) q ∙ by (C n before (captured col.depth xs col.term))
    where
      by : (y : Units Bool) → with_more (bind y (λ alike n1. Some (if alike then Some cs else None, n1))) ≡ bind y (cell_compared col cs)
      by None = refl
      by (Some r) = refl

module _ (N : ℕ → Tree → Units Tree) (C : ℕ → Tree → Tree → Units Bool) (c : Cell) (s : Step) (k : ℕ) (xs : Bor (List ℕ)) (col : Column) (cs : List (Option TermId)) (n : ℕ)
    (acts : ActsAs c s) (is : s ≡ Catches k xs) where
  pub step_escapes : (old new : List Node) → Extends old new → col.term.0 < length old → AreCaptures (length old) cs → mentions_others 0 col.depth xs.now (term old col.term) ≡ true
      → cell_captures N C (plain_cell c) (column old col) n (captured_terms old cs) ≡ cell_due N C new (plain_cell c) (column new col) (captured_terms new cs) Escapes n
  step_escapes old new x l w m =
      let q : term old col.term ≡ term new col.term = flip (x.keeps col.term.0 l) in
      let p : captured_terms old cs ≡ captured_terms new cs = flip (captures_grown old new cs x w) in
      acts.captures N C (column old col) n (captured_terms old cs)
      ∙ ap (λ (z : Step). cell_captures N C (step_cell z) (column old col) n (captured_terms old cs)) is
      ∙ escapes N C k xs.now (column old col) n (captured_terms old cs) m
      ∙ (λ i. bind (N n (term old col.term)) (λ u j. (ap (λ (z : Step). cell_normal N C (step_cell z) (column old col) (captured_terms old cs) u j) (flip is) ∙ flip (acts.escapes N C (column old col) (captured_terms old cs) u j)) i))
      ∙ (λ i. bind (N n (q i)) (cell_normal N C (plain_cell c) (record { depth = col.depth; term = q i }) (p i)))

  module _ (old mid new : List Node) (x : Extends old mid) (y : Extends mid new) (l : col.term.0 < length old) (w : AreCaptures (length old) cs)
      (m : mentions_others 0 col.depth xs.now (term old col.term) ≡ false) (part : TermId) (moved : Moves (captured col.depth xs.now) mid new col.term part) where
    far : Extends old new
    far = extends_more old mid new x y

    same_term : term old col.term ≡ term new col.term
    same_term = flip (far.keeps col.term.0 l)

    same_captures : captured_terms old cs ≡ captured_terms new cs
    same_captures = flip (captures_grown old new cs far w)

    part_is : captured col.depth xs.now (term old col.term) ≡ term new part
    part_is = flip (moved.is ∙ ap (captured col.depth xs.now) (x.keeps col.term.0 l))

    by_step : (z : Units CellTrial) → cell_captures N C (cell (rule_variable_pattern k xs.now)) (column old col) n (captured_terms old cs) ≡ z
        → cell_captures N C (plain_cell c) (column old col) n (captured_terms old cs) ≡ z
    by_step z e = acts.captures N C (column old col) n (captured_terms old cs) ∙ ap (λ (t : Step). cell_captures N C (step_cell t) (column old col) n (captured_terms old cs)) is ∙ e

    pub step_records : (cs' : List (Option TermId)) (caught : Caught) → Records k part cs cs' caught
        → cell_captures N C (plain_cell c) (column old col) n (captured_terms old cs) ≡ cell_due N C new (plain_cell c) (column new col) (captured_terms new cs') caught n
    step_records cs' On r =
        let set : captured_terms new cs' ≡ slice_set (captured_terms new cs) k (Some (term new part)) = ap (captured_terms new) r.1 ∙ terms_set new k cs part in
        by_step _ (catches N C k xs.now (column old col) n (captured_terms old cs) m (capture_missing old k cs r.0))
        ∙ (λ i. Some (record { captures = Some (slice_set (same_captures i) k (Some (part_is i))); column = record { depth = col.depth; term = same_term i } }, n))
        ∙ (λ i. Some (record { captures = Some (flip set i); column = column new col }, n))
    step_records cs' Escapes r = absurd r
    step_records cs' (Compares a b) r =
        let there : term old a ≡ term new a = flip (far.keeps a.0 (capture_within (length old) k cs a w r.0)) in
        let is_b : term new part ≡ term new b = flip (ap (term new) r.1) in
        by_step _ (compares N C k xs.now (column old col) n (captured_terms old cs) (term old a) m (capture_there old k cs a r.0))
        ∙ (λ i. bind (C n (there i) (part_is i)) (cell_compared (record { depth = col.depth; term = same_term i }) (same_captures i)))
        ∙ (λ i. bind (C n (term new a) (is_b i)) (cell_compared (column new col) (captured_terms new (flip r.2 i))))

pub recorded_within : (n k : ℕ) (part : TermId) (cs cs' : List (Option TermId)) (caught : Caught) → AreCaptures n cs → part.0 < n → Records k part cs cs' caught → AreCaptures n cs'
recorded_within n k part cs cs' On w l r = subst (λ (x : List (Option TermId)). AreCaptures n x) (flip r.1) (captures_set n k cs part w l)
recorded_within n k part cs cs' Escapes w l r = absurd r
recorded_within n k part cs cs' (Compares a b) w l r = subst (λ (x : List (Option TermId)). AreCaptures n x) (flip r.2) w

pub caught_within : (n k : ℕ) (part : TermId) (cs cs' : List (Option TermId)) (caught : Caught) → AreCaptures n cs → part.0 < n → Records k part cs cs' caught → AreCaught n caught
caught_within n k part cs cs' On w l r = tt
caught_within n k part cs cs' Escapes w l r = absurd r
caught_within n k part cs cs' (Compares a b) w l r = (capture_within n k cs a w r.0, subst (λ (x : TermId). x.0 < n) (flip r.1) l)

-- the cells of a row

module _ (N : ℕ → Tree → Units Tree) (C : ℕ → Tree → Tree → Units Bool) (n : ℕ) (cells : List Cell) (cols : List Column) (i from : ℕ) (c : Cell) (col : Column)
    (lt : i < length cells) (is : c ≡ get_or cells i c) (is' : slice_get cols i ≡ Some col) (mid new : List Node) (x : Extends mid new) (w : AreColumns (length mid) cols) where
  abbrev asked : List PlainCell
  asked = map plain_cell cells

  same_columns : plain mid cols ≡ plain new cols
  same_columns = flip (columns_grown mid new cols x w)

  here : slice_get asked i ≡ Some (plain_cell c)
  here = got plain_cell cells i c lt is

  there : (ns : List Node) → slice_get (plain ns cols) i ≡ Some (column ns col)
  there ns = map_get (column ns) cols i col is'

  module _ (cs cs' : List (Option TermId)) (whole : Units RowTrial) (same : passed N C asked (plain mid cols) i n (captured_terms mid cs) ≡ whole) where
    pub pass_stops : (caught : Caught) → CellSteps c col mid cs new cs' caught
        → whole ≡ bind (cell_due N C new (cell_at asked i) (column_at (plain new cols) i) (captured_terms new cs') caught n) (after_cell N C asked (plain new cols) i)
    pass_stops caught s =
        let a : plain_cell c ≡ cell_at asked i = flip (cell_there asked i (plain_cell c) here) in
        let b : column new col ≡ column_at (plain new cols) i = flip (column_there (plain new cols) i (column new col) (there new)) in
        flip same
        ∙ at_cell N C asked (plain mid cols) i n (captured_terms mid cs) (plain_cell c) (column mid col) (cell_due N C new (plain_cell c) (column new col) (captured_terms new cs') caught n) here (there mid) (s N C n)
        ∙ (λ j. bind (cell_due N C new (a j) (b j) (captured_terms new cs') caught n) (after_cell N C asked (same_columns j) i))

    pub pass_goes : col.term.0 < length mid → CellSteps c col mid cs new cs' On → passed N C asked (plain new cols) (i + 1) n (captured_terms new cs') ≡ whole
    pass_goes l s =
        let q : column new col ≡ column mid col = λ j. record { depth = col.depth; term = x.keeps col.term.0 l j } in
        (λ j. passed N C asked (flip same_columns j) (i + 1) n (captured_terms new cs'))
        ∙ flip (goes_past N C asked (plain mid cols) i n (captured_terms mid cs) (captured_terms new cs') (plain_cell c) (column mid col) here (there mid)
        (s N C n ∙ (λ j. Some (record { captures = Some (captured_terms new cs'); column = q j }, n))))
        ∙ same

  -- the guards

  module _ (cs : List (Option TermId)) (v : AreCaptures (length mid) cs) (whole : Units Bool) (same : guards_from C asked (plain mid cols) i n (captured_terms mid cs) ≡ whole) where
    kept_captures : captured_terms mid cs ≡ captured_terms new cs
    kept_captures = flip (captures_grown mid new cs x v)

    pub guard_stops : (g : TermId) → col.term.0 < length mid → HasGuard c col.depth new (captured_terms mid cs) (Some g)
        → whole ≡ bind (C n (term new col.term) (term new g)) (guard_compared C asked (plain new cols) (i + 1) (captured_terms new cs))
    guard_stops g l h =
        let q : term mid col.term ≡ term new col.term = flip (x.keeps col.term.0 l) in
        flip same
        ∙ guard_asks N C asked (plain mid cols) i n (captured_terms mid cs) (plain_cell c) (column mid col) (C n (term mid col.term) (term new g)) here (there mid) (h.0 C (term mid col.term) n)
        ∙ (λ j. bind (C n (q j) (term new g)) (guard_compared C asked (same_columns j) (i + 1) (kept_captures j)))

    pub guard_goes : HasGuard c col.depth new (captured_terms mid cs) None → guards_from C asked (plain new cols) (i + 1) n (captured_terms new cs) ≡ whole
    guard_goes h =
        (λ j. guards_from C asked (flip same_columns j) (i + 1) n (flip kept_captures j))
        ∙ guard_met N C asked (plain mid cols) i n n (captured_terms mid cs) (plain_cell c) (column mid col) here (there mid) (h C (term mid col.term) n)
        ∙ same

module _ (N : ℕ → Tree → Units Tree) (C : ℕ → Tree → Tree → Units Bool) (ns : List Node) (cells : List Cell) (cols : List Column) (i n : ℕ) (cs : Captures) (e : min (length cells) (length cols) ≤ i) where
  counted : min (length (map plain_cell cells)) (length (plain ns cols)) ≤ i
  counted = let a = length-map cells plain_cell in let b = length-map cols (column ns) in omega (arith, a, b, e)

  pub row_ended : passed N C (map plain_cell cells) (plain ns cols) i n cs ≡ Some (record { captures = Some cs; columns = plain ns cols }, n)
  row_ended = passed_all N C (map plain_cell cells) (plain ns cols) i n cs counted

  pub guards_ended : guards_from C (map plain_cell cells) (plain ns cols) i n cs ≡ Some (true, n)
  guards_ended = guards_met N C (map plain_cell cells) (plain ns cols) i n cs counted
