-- Selections: what is due round by round, and what the first row, the rows behind it and the value of a column take.
use Rattle.std.proofs.Common.{slice_get, IfSome, Bool, option_map, List, [], ◌∷◌, ◌++◌, take, drop, length, map, ℕ, zero, suc, ◌+◌, ◌≡◌, Option, Some, None, refl, ap, ◌∙◌, sym as flip, subst as along, Vec, Global, ◌≤◌, false, slice_set, if◌then◌else◌}
use Rattle.std.proofs.lemmas.List.{length-map, map-set}
use Rattle.dk_model.specs.Signatures.{PlainSignature, maybe_tree, rule_variable_pattern, wildcard_pattern, guard_pattern, symbol_pattern, variable_pattern, abstraction_pattern}
use Rattle.dk_model.specs.Matrix.{Cell, is_rigid, rigid_at, refined_cells, cell_at, opened_columns, Column as PlainColumn, Row as PlainRow, blank, cell, refined_rows}
use Rattle.dk_model.specs.Selection.{row_taken, RowTrial as PlainRowTrial, Selected as PlainSelected, select_from, recorded, guards_hold}
use Rattle.dk_model.specs.Evaluation.{comparison_of, normal_of, whnf_of}
use Rattle.dk_model.specs.Equations.{selection_of}
use Rattle.certificate_items.specs.Views.{plain_joins}
use Rattle.told_steps.specs.Parts.{LeadsOn}
use Rattle.told_steps.specs.Ends.{FoldsBack, opened_cells}
use Rattle.told_steps.specs.declared.fold.Opened.{Opened}
use Rattle.told_steps.proofs.Folding.{ends_join}
use Rattle.std.proofs.lemmas.Option.{slice_get-map, slice_get_past}
use Rattle.dk_model.specs.Units.{Units, bind}
use Rattle.dk_model.specs.Captures.{Captures, capture_at}
use Rattle.dk_model.proofs.Turns.{selection_is}
use Rattle.tree_evaluation.specs.Views.{Term, Join, Told, End, Row, Captured, RowTrial, Selected, captures_of, capturing, row, row_trial, refined_row, selected, Tree, tree, column_of, columns_of}
use Rattle.tree_evaluation.specs.Tellings.{IsRefinedFrom, AreRefined, AreUnmoved, SelectedRow, Selects, RowTaken, TakesAll, Folded, next_place, LeadsTo, AlwaysLeadsTo, AreEnds, TakesEnds, opened_bases}
use Rattle.tree_evaluation.proofs.Lists.{cut_behind, unmoved_ends, spliced, cut_there, cut_end}
use Rattle.tree_evaluation.proofs.Rows.{each_at}
use Rattle.tree_evaluation.specs.Answers.{by_value, guard_of, with_value}

module _ (S : PlainSignature) where
  pub no_rows : (n : ℕ) (cols : List PlainColumn) → selection_of S n cols [] ≡ Some (None, n)
  no_rows n cols = selection_is S n cols []

  pub back : (n : ℕ) (cols : List PlainColumn) (rs : List PlainRow) → select_from (normal_of S) (comparison_of S) (whnf_of S) (selection_of S) rs cols n ≡ selection_of S n cols rs
  back n cols rs = flip (selection_is S n cols rs)

  module _ (n : ℕ) (cols : List PlainColumn) (r : PlainRow) (rs : List PlainRow) where
    abbrev from : Units (Option PlainSelected)
    from = select_from (normal_of S) (comparison_of S) (whnf_of S) (selection_of S) (r ∷ rs) cols n

    pub loose : rigid_at r.cells ≡ None → selection_of S n cols (r ∷ rs) ≡ bind (row_taken (normal_of S) (comparison_of S) r cols n) (λ trial n1. elim trial.captures [
      | None ↦ select_from (normal_of S) (comparison_of S) (whnf_of S) (selection_of S) rs trial.columns n1
      | Some captures ↦ Some (Some (record { captures = captures; rule = r.rule }), n1)
    ])
    loose e = selection_is S n cols (r ∷ rs) ∙ (let h : from ≡ bind (row_taken (normal_of S) (comparison_of S) r cols n) (λ trial n1. elim trial.captures [
      | None ↦ select_from (normal_of S) (comparison_of S) (whnf_of S) (selection_of S) rs trial.columns n1
      | Some captures ↦ Some (Some (record { captures = captures; rule = r.rule }), n1)
    ]) = rw (e, select_from) refl in h)

    pub fails : (m : ℕ) (trial : PlainRowTrial) → rigid_at r.cells ≡ None → row_taken (normal_of S) (comparison_of S) r cols n ≡ Some (trial, m) → trial.captures ≡ None
        → selection_of S n cols (r ∷ rs) ≡ selection_of S m trial.columns rs
    fails m trial e q h = loose e
        ∙ ap (λ (x : Units PlainRowTrial). bind x (λ tried n1. elim tried.captures as (λ _. Units (Option PlainSelected)) [
          | None ↦ select_from (normal_of S) (comparison_of S) (whnf_of S) (selection_of S) rs tried.columns n1
          | Some captures ↦ Some (Some (record { captures = captures; rule = r.rule }), n1)
        ])) q
        ∙ ap (λ (o : Option Captures). elim o as (λ _. Units (Option PlainSelected)) [
          | None ↦ select_from (normal_of S) (comparison_of S) (whnf_of S) (selection_of S) rs trial.columns m
          | Some captures ↦ Some (Some (record { captures = captures; rule = r.rule }), m)
        ]) h
        ∙ back m trial.columns rs

    pub row_asks : (i : ℕ) → rigid_at r.cells ≡ Some i → selection_of S n cols (r ∷ rs) ≡ by_value S i (r ∷ rs) cols n
    row_asks i e = selection_is S n cols (r ∷ rs) ∙ (let h : from ≡ by_value S i (r ∷ rs) cols n = rw (e, select_from) refl in h)

  -- the column that is asked for

  abbrev at_column : Option PlainColumn → ℕ → List PlainRow → List PlainColumn → ℕ → Units (Option PlainSelected)
  at_column None i rs cs n = Some (None, n)
  at_column (Some c) i rs cs n = bind (whnf_of S n c.term) (with_value S i rs cs c)

  by_column : (o : Option PlainColumn) (i n : ℕ) (rs : List PlainRow) (cs : List PlainColumn) → slice_get cs i ≡ o → by_value S i rs cs n ≡ at_column o i rs cs n
  by_column None i n rs cs e = rw (e, by_value) refl
  by_column (Some c) i n rs cs e = rw (e, by_value) refl

  module _ (cs : List End) (rs : List PlainRow) (i n : ℕ) where
    none_there : slice_get cs i ≡ None → by_value S i rs (map column_of cs) n ≡ Some (None, n)
    none_there e = by_column None i n rs (map column_of cs) (slice_get-map column_of cs i ∙ ap (option_map column_of) e)

    pub past_columns : length cs ≤ i → by_value S i rs (map column_of cs) n ≡ Some (None, n)
    past_columns le = none_there (slice_get_past cs i le)

    pub no_column : drop i cs ≡ [] → by_value S i rs (map column_of cs) n ≡ Some (None, n)
    no_column e = none_there (cut_end i cs e)

    at_value : (x : End) → slice_get cs i ≡ Some x → by_value S i rs (map column_of cs) n ≡ bind (whnf_of S n (tree x.told.form)) (with_value S i rs (map column_of cs) (column_of x))
    at_value x e = by_column (Some (column_of x)) i n rs (map column_of cs) (slice_get-map column_of cs i ∙ ap (option_map column_of) e)

    pub value_ends : (x : End) (behind : List End) → drop i cs ≡ x ∷ behind → whnf_of S n (tree x.told.form) ≡ None → by_value S i rs (map column_of cs) n ≡ None
    value_ends x behind e q = at_value x (cut_there i cs behind x e) ∙ ap (λ y. bind y (with_value S i rs (map column_of cs) (column_of x))) q

    pub value_goes : (x y : End) (v : Tree) (m count : ℕ) (front behind parts all : List End) (seen : List PlainRow) → front ≡ take i cs → drop i cs ≡ x ∷ behind
        → whnf_of S n (tree x.told.form) ≡ Some (v, m) → column_of y ≡ record { depth = x.depth; term = v } → map column_of parts ≡ opened_columns x.depth v
        → all ≡ front ++ y ∷ parts ++ behind → count ≡ length parts → seen ≡ refined_rows v count i rs → by_value S i rs (map column_of cs) n ≡ selection_of S m (map column_of all) seen
    value_goes x y v m count front behind parts all seen f b q same opened joined c refined =
        at_value x (cut_there i cs behind x b) ∙ ap (λ z. bind z (with_value S i rs (map column_of cs) (column_of x))) q ∙ flip (
        ap (λ (l : List End). selection_of S m (map column_of l) seen) (joined ∙ ap (λ (l : List End). l ++ (y ∷ parts) ++ behind) f ∙ ap (λ (l : List End). take i cs ++ (y ∷ parts) ++ l) (cut_behind i cs behind x b))
        ∙ ap (λ (l : List PlainColumn). selection_of S m l seen) (spliced column_of i cs (y ∷ parts)
        ∙ ap (λ (k : PlainColumn). take i (map column_of cs) ++ (k ∷ map column_of parts) ++ drop (i + 1) (map column_of cs)) same
        ∙ ap (λ (l : List PlainColumn). take i (map column_of cs) ++ (record { depth = x.depth; term = v } ∷ l) ++ drop (i + 1) (map column_of cs)) opened)
        ∙ ap (selection_of S m (take i (map column_of cs) ++ (record { depth = x.depth; term = v } ∷ opened_columns x.depth v) ++ drop (i + 1) (map column_of cs)))
        (refined ∙ ap (λ (j : ℕ). refined_rows v j i rs) (c ∙ flip (length-map parts column_of) ∙ ap length opened)))

-- ---- a variable's part

module _ (C : ℕ → Tree → Tree → Units Bool) (n : ℕ) where
  first : (cs : Captures) (k : ℕ) (t : Tree) → capture_at cs k ≡ None → recorded C n cs k t ≡ Some (Some (slice_set cs k (Some t)), n)
  first cs k t e = rw (e, recorded) refl

  pub recorded_new : (xs : List (Option Term)) (k : ℕ) (t : Term) → capture_at (map maybe_tree xs) k ≡ None
      → recorded C n (map maybe_tree xs) k (tree t) ≡ Some (Some (map maybe_tree (slice_set xs k (Some t))), n)
  recorded_new xs k t e = first (map maybe_tree xs) k (tree t) e ∙ ap (λ (l : Captures). Some (Some l, n)) (flip (map-set maybe_tree xs k (Some t)))

  pub recorded_ends : (cs : Captures) (k : ℕ) (before t : Tree) → capture_at cs k ≡ Some before → C n before t ≡ None → recorded C n cs k t ≡ None
  recorded_ends cs k before t e q = rw (e, recorded) (ap (λ x. bind x (λ alike n1. Some (if alike then Some cs else None, n1))) q)

  pub recorded_again : (cs : Captures) (k : ℕ) (before t : Tree) (b : Bool) (m : ℕ) → capture_at cs k ≡ Some before → C n before t ≡ Some (b, m) → recorded C n cs k t ≡ Some (if b then Some cs else None, m)
  recorded_again cs k before t b m e q = rw (e, recorded) (ap (λ x. bind x (λ alike n1. Some (if alike then Some cs else None, n1))) q)

-- ---- guards

module _ (S : PlainSignature) (cells : List Cell) (k : PlainColumn) (cols : List PlainColumn) (n : ℕ) (cs : Captures) where
  abbrev pub met_then : Units Bool → Units Bool
  met_then x = bind x (λ alike m. if alike then guards_hold (comparison_of S) cells cols m cs else Some (false, m))

  pub guard_first : (d : Cell) → guards_hold (comparison_of S) (d ∷ cells) (k ∷ cols) n cs ≡ met_then (guard_of S d k n cs)
  guard_first blank = refl
  guard_first (cell (rule_variable_pattern v xs)) = refl
  guard_first (cell wildcard_pattern) = refl
  guard_first (cell (guard_pattern g)) = refl
  guard_first (cell (symbol_pattern v ps)) = refl
  guard_first (cell (variable_pattern v ps)) = refl
  guard_first (cell (abstraction_pattern p)) = refl

-- ---- the first row

module _ (S : PlainSignature) (r : Row) (rest : List Row) (columns : List End) (trial : RowTrial) (told : RowTaken S (row r).cells columns trial) (loose : rigid_at (row r).cells ≡ None) where
  pub first_selects : (captured : Captured) (it : Selected) → trial.captured ≡ Some captured
      → it ≡ record { captures = captured.captures; rule = r.rule; place = 0; ends = trial.columns; joins = captured.joins } → Selects S (r ∷ rest) columns (Some it)
  first_selects captured it e q = λ bases a. along (SelectedRow S (r ∷ rest) bases) (flip q) (record {
    own = r;
    stands = refl;
    same_rule = refl;
    takes = along (λ (o : Option Captured). IfSome o (TakesAll S bases (row r).cells trial.columns)) e (told loose bases a).1;
  })

  next_row : (bases : List PlainColumn) (o : Option Selected) → IfSome o (SelectedRow S rest bases) → IfSome (option_map next_place o) (SelectedRow S (r ∷ rest) bases)
  next_row bases None t = tt
  next_row bases (Some it) t = record { own = t.own; stands = t.stands; same_rule = t.same_rule; takes = t.takes }

  pub next_selects : (o after : Option Selected) → Selects S rest trial.columns o → after ≡ option_map next_place o → Selects S (r ∷ rest) columns after
  next_selects o after s q = λ bases a. along (λ (x : Option Selected). IfSome x (SelectedRow S (r ∷ rest) bases)) (flip q) (next_row bases o (s bases (told loose bases a).0))

pub next_shown : (o after : Option Selected) → after ≡ option_map next_place o → selected after ≡ selected o
next_shown None after q = ap selected q
next_shown (Some it) after q = ap selected q

-- ---- a row that is kept for a value

-- the cells that it has for the value and its parts
record Spliced (value : Tree) (count at : ℕ) (before after : PlainRow) : Type 0 where
  new : List Cell
  refined : refined_cells value count (cell_at before.cells at) ≡ Some new
  cells : after.cells ≡ opened_cells at new before.cells

cells_spliced : (value : Tree) (count at : ℕ) (before after : PlainRow) (o : Option (List Cell)) → refined_cells value count (cell_at before.cells at) ≡ o
    → option_map (λ cells. record { cells = take at before.cells ++ cells ++ drop (at + 1) before.cells; rule = before.rule }) o ≡ Some after → Spliced value count at before after
cells_spliced value count at before after None e q = cc
cells_spliced value count at before after (Some new) e q =
    let i : ◌≡◌ {A = PlainRow} (record { cells = take at before.cells ++ new ++ drop (at + 1) before.cells; rule = before.rule }) after = cc in
    record { new = new; refined = e; cells = ap (λ (r : PlainRow). r.cells) (flip i) }

same_some : {A : Type 0} (a b : A) (o : Option A) → o ≡ Some a → o ≡ Some b → a ≡ b
same_some a b o d e = let q : Some a ≡ Some b = flip d ∙ e in cc

pub folds : (at depth : ℕ) (told : Told) (rigid : Bool) (rows kept : List Row) (deeper it : Selected) (own before : Row)
    → slice_get kept deeper.place ≡ Some own → slice_get rows own.from ≡ Some before → rigid ≡ is_rigid (cell_at (row before).cells at)
    → FoldsBack (record { at = at; depth = depth; told = told; rigid = rigid }) deeper.ends it.ends
    → it.place ≡ own.from → it.rule ≡ deeper.rule → it.captures ≡ deeper.captures → it.joins ≡ deeper.joins → Folded at depth told rows kept (Some deeper) (Some it)
folds at depth told rigid rows kept deeper it own before k w g f p u c j = λ S bases base s d l from t.
    let opened : Opened = record { at = at; depth = depth; told = told; rigid = rigid } in
    let value : Tree = tree told.form in
    let count : ℕ = length (opened_columns depth value) in
    let same : own ≡ t.own = same_some own t.own (slice_get kept deeper.place) k t.stands in
    let made : IsRefinedFrom value count at rows own = each_at (IsRefinedFrom value count at rows) kept deeper.place own from k in
    let was : made.before ≡ before = same_some made.before before (slice_get rows own.from) made.stands w in
    let refined : refined_row value count at (row before) ≡ Some (row own) = along (λ (r : Row). refined_row value count at (row r) ≡ Some (row own)) was made.refined in
    let cut : Spliced value count at (row before) (row own) = cells_spliced value count at (row before) (row own) (refined_cells value count (cell_at (row before).cells at)) refl refined in
    let takes : TakesEnds S (opened_bases at depth value bases) (row own).cells deeper.ends (captures_of deeper.captures) (plain_joins deeper.joins) =
    along (λ (r : Row). TakesEnds S (opened_bases at depth value bases) (row r).cells deeper.ends (captures_of deeper.captures) (plain_joins deeper.joins)) (flip same) t.takes in
    let back : TakesEnds S bases (row before).cells it.ends (captures_of deeper.captures) (plain_joins deeper.joins) =
    f S bases (row before).cells cut.new (captures_of deeper.captures) (plain_joins deeper.joins) (record { base = base; stands = s; same_depth = d; leads = l }) (record { rigid = g; refined = cut.refined })
    (along (λ (cells : List Cell). TakesEnds S (opened_bases at depth value bases) cells deeper.ends (captures_of deeper.captures) (plain_joins deeper.joins)) cut.cells takes) in
    record {
      own = before;
      stands = ap (slice_get rows) p ∙ w;
      same_rule = ap (λ (r : Row). r.rule) (flip was) ∙ made.same_rule ∙ ap (λ (r : Row). r.rule) same ∙ t.same_rule ∙ flip u;
      takes = along (λ (joins : List Join). TakesEnds S bases (row before).cells it.ends (captures_of it.captures) (plain_joins joins)) (flip j)
          (along (λ (captures : Vec (Option Term) Global). TakesEnds S bases (row before).cells it.ends (captures_of captures) (plain_joins deeper.joins)) (flip c) back);
    }

-- ---- the value of a column

module _ (S : PlainSignature) where
  -- what the column at a place began with
  record Began (bases : List PlainColumn) (at : ℕ) (e : End) : Type 0 where
    base : PlainColumn
    stands : slice_get bases at ≡ Some base
    same_depth : base.depth ≡ e.depth
    leads : LeadsTo S base.term e.told

  began : (at : ℕ) (bases : List PlainColumn) (es behind : List End) (e : End) → AreEnds S bases es → drop at es ≡ e ∷ behind → Began bases at e
  began at (b ∷ bs) [] behind e a q = absurd a
  began at [] (x ∷ es) behind e a q = absurd a
  began zero [] [] behind e a q = cc
  began (suc at) [] [] behind e a q = cc
  began zero (b ∷ bs) (x ∷ es) behind e a q = let i : x ≡ e = cc in along (λ (y : End). Began (b ∷ bs) 0 y) i (record { base = b; stands = refl; same_depth = a.0; leads = a.1 })
  began (suc at) (b ∷ bs) (x ∷ es) behind e a q = let r : Began bs at e = began at bs es behind e a.2 q in record { base = r.base; stands = r.stands; same_depth = r.same_depth; leads = r.leads }

  ends_take : (n : ℕ) (bases : List PlainColumn) (es : List End) → AreEnds S bases es → AreEnds S (take n bases) (take n es)
  ends_take zero bases es a = tt
  ends_take (suc n) [] [] a = tt
  ends_take (suc n) (b ∷ bs) (x ∷ es) a = (a.0, a.1, ends_take n bs es a.2)
  ends_take (suc n) [] (x ∷ es) a = absurd a
  ends_take (suc n) (b ∷ bs) [] a = absurd a

  ends_drop : (n : ℕ) (bases : List PlainColumn) (es : List End) → AreEnds S bases es → AreEnds S (drop n bases) (drop n es)
  ends_drop zero bases es a = a
  ends_drop (suc n) [] [] a = tt
  ends_drop (suc n) (b ∷ bs) (x ∷ es) a = ends_drop n bs es a.2
  ends_drop (suc n) [] (x ∷ es) a = absurd a
  ends_drop (suc n) (b ∷ bs) [] a = absurd a

  -- the columns of the next level, from where those of this one began
  module _ (at depth : ℕ) (value : Tree) (columns front behind parts all : List End) (column own : End) (f : front ≡ take at columns) (b : drop at columns ≡ column ∷ behind)
      (d : own.depth ≡ depth) (l : AlwaysLeadsTo value own.told) (o : columns_of parts ≡ opened_columns depth value) (u : AreUnmoved parts) (j : all ≡ front ++ own ∷ parts ++ behind)
      (bases : List PlainColumn) (a : AreEnds S bases columns) where
    next_begins : AreEnds S (opened_bases at depth value bases) all
    next_begins =
        let rest : behind ≡ drop (at + 1) columns = cut_behind at columns behind column b in
        let opened : AreEnds S (opened_columns depth value) parts = unmoved_ends S parts (opened_columns depth value) u o in
        along (AreEnds S (opened_bases at depth value bases)) (flip j)
        (ends_join S (take at bases ++ record { depth = depth; term = value } ∷ opened_columns depth value) (drop (at + 1) bases) (front ++ own ∷ parts) behind
        (ends_join S (take at bases) (record { depth = depth; term = value } ∷ opened_columns depth value) front (own ∷ parts)
        (along (AreEnds S (take at bases)) (flip f) (ends_take at bases columns a)) (flip d, l S, opened))
        (along (AreEnds S (drop (at + 1) bases)) (flip rest) (ends_drop (at + 1) bases columns a)))

  pub value_selects : (at depth count : ℕ) (value told : Told) (columns front behind parts all : List End) (column own : End) (rows kept : List Row) (deeper it : Option Selected)
      → front ≡ take at columns → drop at columns ≡ column ∷ behind → column.depth ≡ depth
      → LeadsTo S (tree column.told.form) value → LeadsOn column.told value told → tree told.form ≡ tree value.form
      → own.depth ≡ depth → AlwaysLeadsTo (tree value.form) own.told → columns_of parts ≡ opened_columns depth (tree value.form) → AreUnmoved parts
      → all ≡ front ++ own ∷ parts ++ behind → count ≡ length parts → AreRefined (tree value.form) count at rows kept
      → Selects S kept all deeper → Folded at depth told rows kept deeper it → Selects S rows columns it
  value_selects at depth count value told columns front behind parts all column own rows kept deeper it f b d l on e w a o u j c r s g = λ bases h.
      let first : Began bases at column = began at bases columns behind column h b in
      let v : Tree = tree value.form in
      let n : count ≡ length (opened_columns depth v) = c ∙ flip (length-map parts column_of) ∙ ap length o in
      let refined : AreRefined (tree told.form) (length (opened_columns depth (tree told.form))) at rows kept =
      along (λ (t : Tree). AreRefined t (length (opened_columns depth t)) at rows kept) (flip e) (along (λ (m : ℕ). AreRefined v m at rows kept) n r) in
      let next : IfSome deeper (SelectedRow S kept (opened_bases at depth (tree told.form) bases)) =
      along (λ (t : Tree). IfSome deeper (SelectedRow S kept (opened_bases at depth t bases))) (flip e)
      (s (opened_bases at depth v bases) (next_begins at depth v columns front behind parts all column own f b w a o u j bases h)) in
      g S bases first.base first.stands (first.same_depth ∙ d) (on S first.base.term first.leads l) refined next

-- ---- what is due

-- behind a first row that isn't taken
pub row_skipped : (S : PlainSignature) (n m : ℕ) (columns : List End) (rows rest : List Row) (r : Row) (trial : RowTrial) → rows ≡ r ∷ rest → rigid_at (row r).cells ≡ None
    → row_taken (normal_of S) (comparison_of S) (row r) (columns_of columns) n ≡ Some (row_trial trial, m) → trial.captured ≡ None
    → selection_of S n (columns_of columns) (map row rows) ≡ selection_of S m (columns_of trial.columns) (map row rest)
row_skipped S n m columns rows rest r trial h e q f = ap (λ (rs : List Row). selection_of S n (columns_of columns) (map row rs)) h
    ∙ fails S n (columns_of columns) (row r) (map row rest) m (row_trial trial) e q (ap capturing f)
