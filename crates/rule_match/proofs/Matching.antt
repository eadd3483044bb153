-- What is left of a selection, step by step.
use Rattle.std.proofs.Common.{List, [], ◌∷◌, ◌++◌, take, drop, map, length, ℕ, zero, suc, ◌≡◌, ◌<◌, ◌+◌, Option, Some, None, Bool, true, false, refl, ap, ◌∙◌, sym as flip, subst, arith}
use Rattle.std.specs.Prelude.{slice_get, slice_set, replicate, if◌then◌else◌}
use Rattle.dk_model.specs.Trees.{Tree}
use Rattle.dk_model.specs.Signatures.{PlainRule, PlainSignature}
use Rattle.dk_model.specs.Units.{Units, bind}
use Rattle.dk_model.specs.Matrix.{Cell, Column, Row, rigid_at, cell_at, opened_columns, refined_rows}
use Rattle.dk_model.specs.Captures.{Captures}
use Rattle.dk_model.specs.Selection.{CellTrial, RowTrial, Selected, cell_captures, captures_of_row, guards_hold, select_from}
use Rattle.dk_model.specs.Evaluation.{whnf_of, comparison_of, normal_of}
use Rattle.dk_model.specs.Equations.{selection_of}
use Rattle.dk_model.proofs.Turns.{selection_is}
use Rattle.std.specs.Prelude.{IfOk, Result, Ok, Err}
use Rattle.dk_model.specs.declared.memory.NoMemory.{NoMemory}
use Rattle.shared_term.specs.declared.id.TermId.{TermId}
use Rattle.shared_term.specs.Pools.{Node as PoolNode, term, Extends}
use Rattle.shared_term.specs.Changes.{AreCaptures, captured_terms}
use Rattle.rule_match.specs.declared.cell.Cell.{Cell as HeldCell}
use Rattle.rule_match.specs.declared.value.Column.{Column as HeldColumn}
use Rattle.rule_match.specs.declared.row.NextGuard.{NextGuard}
use Rattle.rule_match.specs.declared.row.Passage.{Passage}
use Rattle.rule_match.specs.declared.matcher.Ask.{Ask}
use Rattle.rule_match.specs.declared.matcher.Matcher.{Matcher}
use Rattle.rule_match.specs.Rows.{plain_cell}
use Rattle.rule_match.specs.Columns.{plain, column, AreColumns}
use Rattle.rule_match.specs.Trying.{column_at, guards_due as next_due, row_due, GuardsPass, RowPasses}
use Rattle.rule_match.specs.Matching.{Stands, Asks}
use Rattle.rule_match.proofs.Growing.{columns_grown, captures_grown}
use Rattle.rule_match.proofs.Through.{at_cell, set_again}
use Rattle.rule_match.specs.Standing.{put_before, passed, after_cell, cell_normal, cell_compared, others_in, guards_from, guard_compared, finished, decided, capturing, guarding, with_value}

-- rows one after another

next_suc : {A : Type 0} (xs : List A) (i : ℕ) (x : A) → slice_get xs i ≡ Some x → drop i xs ≡ x ∷ drop (suc i) xs
next_suc [] i x e = cc
next_suc (y ∷ xs) zero x e = let q : y ≡ x = cc in ap (λ z. z ∷ xs) q
next_suc (y ∷ xs) (suc i) x e = next_suc xs i x e

pub next_there : {A : Type 0} (xs : List A) (i : ℕ) (x : A) → slice_get xs i ≡ Some x → drop i xs ≡ x ∷ drop (i + 1) xs
next_there xs i x e = next_suc xs i x e ∙ ap (λ (k : ℕ). x ∷ drop k xs) (let h : suc i ≡ i + 1 = omega arith in h)

pub none_there : {A : Type 0} (xs : List A) (i : ℕ) → slice_get xs i ≡ None → drop i xs ≡ []
none_there [] zero e = refl
none_there [] (suc i) e = refl
none_there (y ∷ xs) zero e = cc
none_there (y ∷ xs) (suc i) e = none_there xs i e

module _ (S : PlainSignature) (n : ℕ) (cols : List Column) (rows : List Row) (i : ℕ) where
  pub select_none : slice_get rows i ≡ None → selection_of S n cols (drop i rows) ≡ Some (None, n)
  select_none e = ap (selection_of S n cols) (none_there rows i e) ∙ selection_is S n cols []

  module _ (r : Row) (there : slice_get rows i ≡ Some r) where
    abbrev rest : List Row
    rest = drop (i + 1) rows

    abbrev from : List Row → List Column → ℕ → Units (Option Selected)
    from rs cs m = select_from (normal_of S) (comparison_of S) (whnf_of S) (selection_of S) rs cs m

    begun : selection_of S n cols (drop i rows) ≡ from (r ∷ rest) cols n
    begun = ap (selection_of S n cols) (next_there rows i r there) ∙ selection_is S n cols (r ∷ rest)

    abbrev loose : Units RowTrial → Units (Option Selected)
    loose x = bind x (λ trial m. elim trial.captures [ None ↦ from rest trial.columns m | Some captures ↦ Some (Some (record { captures = captures; rule = r.rule }), m) ])

    abbrev tried : RowTrial → ℕ → Units RowTrial
    tried trial m = elim trial.captures [
      | None ↦ Some (record { captures = None; columns = trial.columns }, m)
      | Some captures ↦ bind (guards_hold (comparison_of S) r.cells trial.columns m captures) (λ hold k. Some (record { captures = if hold then Some captures else None; columns = trial.columns }, k))
    ]

    abbrev rigid : Option ℕ → Units (Option Selected)
    rigid o = elim o [
      | None ↦ loose (bind (captures_of_row (normal_of S) (comparison_of S) r.cells cols n (replicate r.rule.vars None)) tried)
      | Some at ↦ elim (slice_get cols at) [
        | None ↦ Some (None, n)
        | Some column ↦ bind (whnf_of S n column.term) (λ value m. let new : List Column = opened_columns column.depth value in
            selection_of S m (take at cols ++ record { depth = column.depth; term = value } ∷ new ++ drop (at + 1) cols) (refined_rows value (length new) at (r ∷ rest)))
      ]
    ]

    by_guard : (cs : List Column) (captures : Captures) (y : Units Bool)
        → loose (bind y (λ hold k. Some (record { captures = if hold then Some captures else None; columns = cs }, k))) ≡ bind y (decided S r rest cs captures)
    by_guard cs captures None = refl
    by_guard cs captures (Some p) = go p.0
      where
        go : (hold : Bool) → loose (Some (record { captures = if hold then Some captures else None; columns = cs }, p.1)) ≡ decided S r rest cs captures hold p.1
        go true = refl
        go false = flip (selection_is S p.1 cs rest)

    by_trial : (o : Option Captures) (cs : List Column) (m : ℕ) → loose (tried (record { captures = o; columns = cs }) m) ≡ finished S r rest (record { captures = o; columns = cs }) m
    by_trial None cs m = flip (selection_is S m cs rest)
    by_trial (Some captures) cs m = by_guard cs captures (guards_hold (comparison_of S) r.cells cs m captures)

    by_captures : (x : Units RowTrial) → loose (bind x tried) ≡ bind (put_before [] x) (finished S r rest)
    by_captures None = refl
    by_captures (Some p) = by_trial p.0.captures p.0.columns p.1

    pub select_loose : rigid_at r.cells ≡ None → selection_of S n cols (drop i rows) ≡ capturing S r rest cols 0 (replicate r.rule.vars None) n
    select_loose e = begun ∙ ap rigid e ∙ by_captures (captures_of_row (normal_of S) (comparison_of S) r.cells cols n (replicate r.rule.vars None))

    module _ (at : ℕ) (e : rigid_at r.cells ≡ Some at) where
      abbrev at_column : Option Column → Units (Option Selected)
      at_column o = elim o [
        | None ↦ Some (None, n)
        | Some column ↦ bind (whnf_of S n column.term) (λ value m. let new : List Column = opened_columns column.depth value in
            selection_of S m (take at cols ++ record { depth = column.depth; term = value } ∷ new ++ drop (at + 1) cols) (refined_rows value (length new) at (r ∷ rest)))
      ]

      pub select_missing : slice_get cols at ≡ None → selection_of S n cols (drop i rows) ≡ Some (None, n)
      select_missing q = begun ∙ ap rigid e ∙ ap at_column q

      pub select_rigid : (c : Column) → slice_get cols at ≡ Some c → selection_of S n cols (drop i rows) ≡ bind (whnf_of S n c.term) (with_value S cols (drop i rows) at c.depth)
      select_rigid c q = begun ∙ ap rigid e ∙ ap at_column q
          ∙ (λ j. bind (whnf_of S n c.term) (with_value S cols (flip (next_there rows i r there) j) at c.depth))

-- a row once an answer is there

pub bind_bind : {A B D : Type 0} (x : Units A) (f : A → ℕ → Units B) (g : B → ℕ → Units D) → bind (bind x f) g ≡ bind x (λ a n. bind (f a n) g)
bind_bind None f g = refl
bind_bind (Some p) f g = refl

-- the columns and cells at a place

pub set_at : (cols : List Column) (i : ℕ) → slice_set cols i (column_at cols i) ≡ cols
set_at [] i = refl
set_at (c ∷ cols) zero = refl
set_at (c ∷ cols) (suc i) = ap (λ l. c ∷ l) (set_at cols i)

pub cell_there : (cells : List Cell) (i : ℕ) → i < length cells → slice_get cells i ≡ Some (cell_at cells i)
cell_there [] i l = absurd (omega arith)
cell_there (c ∷ cells) zero l = refl
cell_there (c ∷ cells) (suc i) l = cell_there cells i (omega arith)

pub column_there : (cols : List Column) (i : ℕ) → i < length cols → slice_get cols i ≡ Some (column_at cols i)
column_there [] i l = absurd (omega arith)
column_there (c ∷ cols) zero l = refl
column_there (c ∷ cols) (suc i) l = column_there cols i (omega arith)

got_set : (cols : List Column) (i : ℕ) (c : Column) → i < length cols → slice_get (slice_set cols i c) i ≡ Some c
got_set [] i c l = absurd (omega arith)
got_set (d ∷ cols) zero c l = refl
got_set (d ∷ cols) (suc i) c l = got_set cols i c (omega arith)

module _ (S : PlainSignature) (row : Row) (rest : List Row) (cols : List Column) (i : ℕ) (cs : Captures) where
  abbrev N : ℕ → Tree → Units Tree
  N = normal_of S

  abbrev C : ℕ → Tree → Tree → Units Bool
  C = comparison_of S

  pub escape_asks : (n : ℕ) → bind (bind (bind (N n (column_at cols i).term) (cell_normal N C (cell_at row.cells i) (column_at cols i) cs)) (after_cell N C row.cells cols i)) (finished S row rest)
      ≡ bind (N n (column_at cols i).term) (λ u m. bind (bind (cell_normal N C (cell_at row.cells i) (column_at cols i) cs u m) (after_cell N C row.cells cols i)) (finished S row rest))
  escape_asks n = by (N n (column_at cols i).term)
    where
      by : (x : Units Tree) → bind (bind (bind x (cell_normal N C (cell_at row.cells i) (column_at cols i) cs)) (after_cell N C row.cells cols i)) (finished S row rest)
          ≡ bind x (λ u m. bind (bind (cell_normal N C (cell_at row.cells i) (column_at cols i) cs u m) (after_cell N C row.cells cols i)) (finished S row rest))
      by None = refl
      by (Some p) = refl

  pub compare_asks : (x : Units Bool) → bind (bind (bind x (cell_compared (column_at cols i) cs)) (after_cell N C row.cells cols i)) (finished S row rest)
      ≡ bind x (λ b m. bind (bind (cell_compared (column_at cols i) cs b m) (after_cell N C row.cells cols i)) (finished S row rest))
  compare_asks None = refl
  compare_asks (Some p) = refl

  pub guard_asked : (x : Units Bool) → bind (bind x (guard_compared C row.cells cols (i + 1) cs)) (decided S row rest cols cs) ≡ bind x (λ b m. bind (guard_compared C row.cells cols (i + 1) cs b m) (decided S row rest cols cs))
  guard_asked None = refl
  guard_asked (Some p) = refl

  pub compared_alike : (n : ℕ) → bind (bind (cell_compared (column_at cols i) cs true n) (after_cell N C row.cells cols i)) (finished S row rest) ≡ capturing S row rest cols (i + 1) cs n
  compared_alike n = ap (λ (l : List Column). capturing S row rest l (i + 1) cs n) (set_at cols i)

  pub compared_other : (n : ℕ) → bind (bind (cell_compared (column_at cols i) cs false n) (after_cell N C row.cells cols i)) (finished S row rest) ≡ selection_of S n cols rest
  compared_other n = ap (λ (l : List Column). selection_of S n l rest) (set_at cols i)

  module _ (u : Tree) (n : ℕ) where
    abbrev here : Column
    here = record { depth = (column_at cols i).depth; term = u }

    abbrev normal : Units (Option Selected)
    normal = bind (bind (cell_normal N C (cell_at row.cells i) (column_at cols i) cs u n) (after_cell N C row.cells cols i)) (finished S row rest)

    pub normal_fails : others_in (cell_at row.cells i) (column_at cols i).depth u ≡ true → normal ≡ selection_of S n (slice_set cols i here) rest
    normal_fails e =
        ap (λ (b : Bool). bind (bind (if b then Some (record { captures = None; column = here }, n) else cell_captures N C (cell_at row.cells i) here n cs) (after_cell N C row.cells cols i)) (finished S row rest)) e

    same_after : (o : CellTrial) (m : ℕ) → after_cell N C row.cells cols i o m ≡ after_cell N C row.cells (slice_set cols i here) i o m
    same_after o m = go o.captures
      where
        go : (p : Option Captures) → after_cell N C row.cells cols i (record { captures = p; column = o.column }) m ≡ after_cell N C row.cells (slice_set cols i here) i (record { captures = p; column = o.column }) m
        go None = ap (λ (l : List Column). Some (record { captures = None; columns = l }, m)) (flip (set_again N C cols i here o.column))
        go (Some more) = ap (λ (l : List Column). passed N C row.cells l (i + 1) m more) (flip (set_again N C cols i here o.column))

    by_after : (x : Units CellTrial) → bind x (after_cell N C row.cells cols i) ≡ bind x (after_cell N C row.cells (slice_set cols i here) i)
    by_after None = refl
    by_after (Some p) = same_after p.0 p.1

    pub normal_goes : i < length row.cells → i < length cols → others_in (cell_at row.cells i) (column_at cols i).depth u ≡ false → normal ≡ capturing S row rest (slice_set cols i here) i cs n
    normal_goes l k e =
        ap (λ (b : Bool). bind (bind (if b then Some (record { captures = None; column = here }, n) else cell_captures N C (cell_at row.cells i) here n cs) (after_cell N C row.cells cols i)) (finished S row rest)) e
        ∙ ap (λ (x : Units RowTrial). bind x (finished S row rest))
        (by_after (cell_captures N C (cell_at row.cells i) here n cs)
        ∙ flip (at_cell N C row.cells (slice_set cols i here) i n cs (cell_at row.cells i) here (cell_captures N C (cell_at row.cells i) here n cs) (cell_there row.cells i l) (got_set cols i here k) refl))

-- answers of a call, from those of the call that it ends with

pub asks_same : (rules : List PlainRule) (ns : List PoolNode) (m : Matcher) (ask : Ask) (due due' : PlainSignature → ℕ → Units (Option Selected)) → ((S : PlainSignature) (n : ℕ) → due' S n ≡ due S n)
    → Asks rules ns m ask due → Asks rules ns m ask due'
asks_same rules ns m ask due due' e a = subst (λ (d : PlainSignature → ℕ → Units (Option Selected)). Asks rules ns m ask d) (λ i S n. flip (e S n) i) a

pub asks_on : (result : Result Ask NoMemory) (ns : List PoolNode) (m m0 m1 : Matcher) (due due' : List PlainRule → PlainSignature → ℕ → Units (Option Selected))
    → ((rules : List PlainRule) → Stands rules m0 → Stands rules m1) → ((rules : List PlainRule) → Stands rules m0 → (S : PlainSignature) (n : ℕ) → due' rules S n ≡ due rules S n)
    → IfOk result (λ ask. (rules : List PlainRule) → Stands rules m1 → Asks rules ns m ask (due rules)) → IfOk result (λ ask. (rules : List PlainRule) → Stands rules m0 → Asks rules ns m ask (due' rules))
asks_on (Ok ask) ns m m0 m1 due due' f e h = λ rules s. asks_same rules ns m ask (due rules) (due' rules) (e rules s) (h rules (f rules s))
asks_on (Err stop) ns m m0 m1 due due' f e h = tt

-- the guards of a row

pub guards_asked : (S : PlainSignature) (row : Row) (rest : List Row) (cells : List HeldCell) (cols : List HeldColumn) (caps : List (Option TermId)) (old new : List PoolNode) (from n : ℕ) (next : Option NextGuard)
    → row.cells ≡ map plain_cell cells → Extends old new → AreColumns (length old) cols → AreCaptures (length old) caps → GuardsPass cells cols from caps old new next
    → guarding S row rest (plain old cols) from (captured_terms old caps) n
    ≡ bind (next_due (comparison_of S) new row.cells (plain new cols) (captured_terms new caps) next n) (decided S row rest (plain new cols) (captured_terms new caps))
guards_asked S row rest cells cols caps old new from n next r x w v g =
    (λ i. bind (guards_from (comparison_of S) (r i) (plain old cols) from n (captured_terms old caps)) (decided S row rest (plain old cols) (captured_terms old caps)))
    ∙ ap (λ (y : Units Bool). bind y (decided S row rest (plain old cols) (captured_terms old caps))) (g.is (comparison_of S) n)
    ∙ (λ i. bind (next_due (comparison_of S) new (flip r i) (plain new cols) (captured_terms new caps) next n)
    (decided S row rest (flip (columns_grown old new cols x w) i) (flip (captures_grown old new caps x v) i)))

pub cells_asked : (S : PlainSignature) (row : Row) (rest : List Row) (cells : List HeldCell) (cols : List HeldColumn) (caps caps' : List (Option TermId)) (old new : List PoolNode) (from n : ℕ) (pass : Passage)
    → row.cells ≡ map plain_cell cells → RowPasses cells cols from old caps new caps' pass
    → capturing S row rest (plain old cols) from (captured_terms old caps) n ≡ bind (row_due (normal_of S) (comparison_of S) new row.cells (plain new cols) (captured_terms new caps') pass n) (finished S row rest)
cells_asked S row rest cells cols caps caps' old new from n pass r p =
    (λ i. bind (passed (normal_of S) (comparison_of S) (r i) (plain old cols) from n (captured_terms old caps)) (finished S row rest))
    ∙ ap (λ (y : Units RowTrial). bind y (finished S row rest)) (p (normal_of S) (comparison_of S) n)
    ∙ (λ i. bind (row_due (normal_of S) (comparison_of S) new (flip r i) (plain new cols) (captured_terms new caps') pass n) (finished S row rest))

pub term_there : (ns : List PoolNode) (cols : List HeldColumn) (i : ℕ) (c : HeldColumn) → slice_get cols i ≡ Some c → column_at (plain ns cols) i ≡ column ns c
term_there ns [] i c e = cc
term_there ns (d ∷ cols) zero c e = let q : d ≡ c = cc in ap (column ns) q
term_there ns (d ∷ cols) (suc i) c e = term_there ns cols i c e
