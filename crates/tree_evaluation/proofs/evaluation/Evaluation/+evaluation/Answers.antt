use Rattle.std.proofs.Common.{◌≡◌, ◌∙◌, ◌∷◌, ◌≤◌, ◌-◌, List, [], ℕ, Option, Some, None, get_or, ap, subst as along, map, take, drop, length, refl, sym as flip, arith, IfSome, take_all}
use Rattle.std.proofs.lemmas.Grind.{common_steps}
use Rattle.dk_model.specs.Trees.{apply, bare, product}
use Rattle.dk_model.specs.Spines.{head_symbol}
use Rattle.dk_model.specs.Evaluation.{rewritten}
use Rattle.dk_model.specs.Substitution.{shift}
use Rattle.dk_model.specs.Signatures.{PlainSignature, maybe_tree, rule_variable_pattern, guard_pattern}
use Rattle.dk_model.specs.Matrix.{rigid_at, blank, cell as asks, Cell as PlainCell}
use Rattle.dk_model.specs.Captures.{Captures, capture_at}
use Rattle.dk_model.specs.Selection.{Selected as PlainSelected}
use Rattle.dk_model.specs.Equations.{selection_of}
use Rattle.tree_evaluation.specs.Views.{Term, Join, Told, End, Meeting, Cell, Row, Captured, RowTrial, Selected, at_depth, pattern_cell, plain_cell, plain_cells, captures_of, row, selected, plain_selected, Tree, tree, columns_of}
use Rattle.signature_log.specs.Versions.{entries_of}
use Rattle.told_steps.specs.Meetings.{MeetIn}
use Rattle.tree_evaluation.specs.Tellings.{Begins, Rewrites, Selects, CellTold, RowTold, GuardTold, GuardsTold, RowTaken, Folded, LeadsTo, AlwaysLeadsTo}
use Rattle.tree_evaluation.proofs.Taking.{still_one, recorded_first, recorded_met, IsNoVariable, no_variable, other_cell, IsNoGuard, no_guard, other_guard, part_recorded, cell_fails, cell_goes, guard_joined, guards_joined, row_takes}
use Rattle.tree_evaluation.proofs.Rewriting.{rewrite_goes}
use Rattle.tree_evaluation.proofs.Comparing.{equal_meet, meet_around, meet_together}
use Rattle.tree_evaluation.proofs.Selecting.{first_selects, next_selects, next_shown, value_selects, row_skipped, value_goes}
use Rattle.tree_evaluation.proofs.evaluation.Evaluation.+evaluation.Goals as goal

-- ---- cells

-- what stands behind the first item of a slice
abbrev behind : {A : Type 0} → List A → List A
behind xs = take (length xs - 1) (drop 1 xs)

headed : {A : Type 0} (xs : List A) (x : A) → 1 ≤ length xs → x ≡ get_or xs 0 x → xs ≡ x ∷ behind xs
headed [] x l e = absurd (omega arith)
headed (y ∷ ys) x l e = ap (λ z. z ∷ ys) (flip e) ∙ ap (λ zs. x ∷ zs) (flip (take_all (length (y ∷ ys) - 1) ys (omega arith)))

pub captures_of_row-returns-in_ok-behind_column-in-Some-captured-clause-told : goal.captures_of_row-returns-in_ok-behind_column-in-Some-captured-clause-told
captures_of_row-returns-in_ok-behind_column-in-Some-captured-clause-told t c =
    let S : PlainSignature = entries_of c.args.self.version.now in
    let after : RowTrial = c.in_ok-behind_column-in-Some-captured.field-0 in
    let rest : List Cell = behind c.args.cells.now in
    along (λ (cells : List Cell). RowTold S (plain_cells cells) c.args.columns c.args.captured after) (flip (headed c.args.cells.now c.cell-item.result c.in-len1-up.len_at_least c.cell-item.is))
    (along (λ (es : List End). RowTold S (plain_cell c.cell-item.result ∷ plain_cells rest) es c.args.captured after) (flip c.in-Some.ensures.items)
    (cell_goes S (plain_cell c.cell-item.result) (plain_cells rest) c.in-Some.column c.pop_front.new.self c.args.captured c.in_ok-captured.field-0 c.in_ok-captured.ensures.told
    c.in-Some-captured.captured c.in_ok-rest-in-Some-captured.rest after c.in-Some-captured.is c.in_ok-rest-in-Some-captured.ensures.told c.in_ok-behind_column-in-Some-captured.ensures))

pub captures_of_row-returns-in_ok-behind_column-in-None-clause-told : goal.captures_of_row-returns-in_ok-behind_column-in-None-clause-told
captures_of_row-returns-in_ok-behind_column-in-None-clause-told t c =
    let S : PlainSignature = entries_of c.args.self.version.now in
    let after : RowTrial = c.in_ok-behind_column-in-None.field-0 in
    let rest : List Cell = behind c.args.cells.now in
    let is : after ≡ record { captured = None; columns = c.in_ok-captured.field-0.column ∷ c.pop_front.new.self } = c.in_ok-behind_column-in-None.ensures in
    along (λ (cells : List Cell). RowTold S (plain_cells cells) c.args.columns c.args.captured after) (flip (headed c.args.cells.now c.cell-item.result c.in-len1-up.len_at_least c.cell-item.is))
    (along (λ (es : List End). RowTold S (plain_cell c.cell-item.result ∷ plain_cells rest) es c.args.captured after) (flip c.in-Some.ensures.items)
    (cell_fails S (plain_cell c.cell-item.result) (plain_cells rest) c.in-Some.column c.pop_front.new.self c.args.captured c.in_ok-captured.field-0 c.in_ok-captured.ensures.told
    after (ap (λ (it : RowTrial). it.captured) is) (ap (λ (it : RowTrial). it.columns) is)))

pub cell_captures-returns-in_default-clause-told : goal.cell_captures-returns-in_default-clause-told
cell_captures-returns-in_default-clause-told t c = along (λ (cell : Cell). CellTold (entries_of c.args.self.version.now) (plain_cell cell) c.args.column c.args.captured (record { captured = Some c.args.captured; column = c.args.column }))
    (flip c.in_default.is) (other_cell (entries_of c.args.self.version.now) blank c.args.column c.args.captured c.args.left.now tt).1

pub cell_captures-returns-in_default-pattern : goal.cell_captures-returns-in_default-pattern
cell_captures-returns-in_default-pattern t c =
    let S : PlainSignature = entries_of c.args.self.version.now in
    let is : plain_cell c.args.cell ≡ pattern_cell c.in-Pattern.pattern.now = ap plain_cell c.in-Pattern.is in
    let passes = other_cell S (plain_cell c.args.cell) c.args.column c.args.captured c.args.left.now (along (IsNoVariable S) (flip is) (no_variable S c.in-Pattern.pattern.now c.in_default-pattern.not-Rvar)) in
    record { gives = passes.0; spent = omega arith; told = passes.1 }

pub cell_captures-returns-then-not-fits-clause-told : goal.cell_captures-returns-then-not-fits-clause-told
cell_captures-returns-then-not-fits-clause-told t c = λ r.
    (still_one (entries_of c.args.self.version.now) c.args.column.depth c.args.column.told c.in_ok-told.field-0.told c.in_ok-told.ensures.told.0, tt)

pub cell_captures-returns-clause-told : goal.cell_captures-returns-clause-told
cell_captures-returns-clause-told t c =
    let S : PlainSignature = entries_of c.args.self.version.now in
    let depth : ℕ = c.args.column.depth in
    let xs : List ℕ = c.as_slice-listed.result.now in
    let is : plain_cell c.args.cell ≡ asks (rule_variable_pattern c.in-Rvar.variable c.as_slice-listed.result.now) =
    ap plain_cell c.in-Pattern.is ∙ ap pattern_cell c.in-Rvar.is ∙ ap (λ (ys : List ℕ). asks (rule_variable_pattern c.in-Rvar.variable ys)) (flip c.as_slice-listed.ensures) in
    along (λ (cell : PlainCell). CellTold S cell c.args.column c.args.captured (record { captured = c.in_ok-captured.captured; column = record { depth = c.args.column.depth; told = c.in_ok-told.field-0.told } })) (flip is)
    (part_recorded S c.in-Rvar.variable xs depth c.args.column.told c.args.captured c.in_ok-told.field-0 c.in_ok-told.ensures.told c.if-not-fits.false (tree c.in_ok-part.part) c.in_ok-part.ensures
    c.in_ok-captured.captured c.in_ok-captured.ensures.told)

pub guard_holds-returns-in_default-pattern : goal.guard_holds-returns-in_default-pattern
guard_holds-returns-in_default-pattern t c =
    let S : PlainSignature = entries_of c.args.self.version.now in
    let cs : Captures = map maybe_tree c.args.captures.now in
    let is : plain_cell c.args.cell ≡ pattern_cell c.in-Pattern.pattern.now = ap plain_cell c.in-Pattern.is in
    let passes = other_guard S (plain_cell c.args.cell) c.args.column.now c.args.left.now cs (along (IsNoGuard S) (flip is) (no_guard S c.in-Pattern.pattern.now c.in_default-pattern.not-Guard)) in
    record {
      gives = passes.0;
      spent = omega arith;
      told = along (λ (joins : List Join). GuardTold S (plain_cell c.args.cell) c.args.column.now cs joins) (flip c.new-in_default-pattern.ensures) passes.1;
    }

pub guard_holds-returns-in-Some-clause-told : goal.guard_holds-returns-in-Some-clause-told
guard_holds-returns-in-Some-clause-told t c =
    let S : PlainSignature = entries_of c.args.self.version.now in
    let cs : Captures = map maybe_tree c.args.captures.now in
    let g : Tree = tree c.in_ok-to_term.field-0 in
    let u : Tree = tree c.in_ok-guard-2.guard in
    let is : plain_cell c.args.cell ≡ asks (guard_pattern (tree c.in_ok-to_term.field-0)) =
    ap plain_cell c.in-Pattern.is ∙ ap pattern_cell c.in-Guard.is ∙ ap (λ (t : Tree). asks (guard_pattern t)) (flip c.in_ok-to_term.ensures) in
    along (λ (cell : PlainCell). GuardTold S cell c.args.column.now cs c.in_ok-one_join-in-Some.field-0) (flip is)
    (guard_joined S g u c.args.column.now cs c.in-Some.met c.into_join.result c.in_ok-one_join-in-Some.field-0
    (c.in_ok-guard-2.ensures ∙ ap (shift 0 c.args.column.now.depth) c.in_ok-guard.ensures)
    (along (λ (o : Option Meeting). IfSome o (MeetIn S (tree c.args.column.now.told.form) u)) c.in-Some.is c.in_ok-met.ensures.told) c.into_join.ensures.meets c.in_ok-one_join-in-Some.ensures)

pub guards_hold-returns-in_ok-joins_together-in-Some-behind-clause-told : goal.guards_hold-returns-in_ok-joins_together-in-Some-behind-clause-told
guards_hold-returns-in_ok-joins_together-in-Some-behind-clause-told t c =
    let S : PlainSignature = entries_of c.args.self.version.now in
    let cs : Captures = map maybe_tree c.args.captures.now in
    let rest : List Cell = behind c.args.cells.now in
    let joins : List Join = c.in_ok-joins_together-in-Some-behind.field-0 in
    along (λ (cells : List Cell). GuardsTold S (plain_cells cells) c.args.columns.now cs joins) (flip (headed c.args.cells.now c.cell-item.result c.in-len1-up.len_at_least c.cell-item.is))
    (along (λ (es : List End). GuardsTold S (plain_cell c.cell-item.result ∷ plain_cells rest) es cs joins) (flip c.in-Some.ensures.items)
    (guards_joined S (plain_cell c.cell-item.result) (plain_cells rest) c.in-Some.column c.pop_front.new.self cs c.in-Some-2.here c.in-Some-behind.behind joins
    (along (λ (o : Option (List Join)). IfSome o (GuardTold S (plain_cell c.cell-item.result) c.in-Some.column cs)) c.in-Some-2.is c.in_ok-here.ensures.told)
    (along (λ (o : Option (List Join)). IfSome o (GuardsTold S (plain_cells rest) c.pop_front.new.self cs)) c.in-Some-behind.is c.in_ok-behind.ensures.told)
    c.in_ok-joins_together-in-Some-behind.ensures))

-- ---- captures

pub recorded-returns-in_ok-with_capture-in-None-clause-told : goal.recorded-returns-in_ok-with_capture-in-None-clause-told
recorded-returns-in_ok-with_capture-in-None-clause-told t c =
    let none : capture_at (captures_of c.args.captured.captures) c.args.variable ≡ None =
    ap (λ (items : List (Option Term)). capture_at (map maybe_tree items) c.args.variable) (flip c.as_slice.ensures.value) ∙ c.in-None.ensures in
    recorded_first (entries_of c.args.self.version.now) c.args.captured c.in_ok-with_capture-in-None.field-0 c.args.variable c.args.part c.in_ok-with_capture-in-None.ensures none

pub recorded-returns-in_ok-with_join-in-Some-2-clause-told : goal.recorded-returns-in_ok-with_join-in-Some-2-clause-told
recorded-returns-in_ok-with_join-in-Some-2-clause-told t c =
    let S : PlainSignature = entries_of c.args.self.version.now in
    let u : Tree = tree c.in-Some.earlier.now in
    let there : capture_at (captures_of c.args.captured.captures) c.args.variable ≡ Some (tree c.in-Some.earlier.now) =
    ap (λ (items : List (Option Term)). capture_at (map maybe_tree items) c.args.variable) (flip c.as_slice.ensures.value) ∙ c.in-Some.ensures in
    recorded_met S c.args.captured c.in_ok-with_join-in-Some-2.field-0 c.args.variable (tree c.args.part) u c.in-Some-2.met c.into_join.result there
    (along (λ (o : Option Meeting). IfSome o (MeetIn S u (tree c.args.part))) c.in-Some-2.is c.in_ok-met-in-Some.ensures.told) c.into_join.ensures.meets
    c.in_ok-with_join-in-Some-2.ensures.captures c.in_ok-with_join-in-Some-2.ensures.joins

-- ---- a row

pub row_taken-returns-clause-told : goal.row_taken-returns-clause-told
row_taken-returns-clause-told t c =
    let S : PlainSignature = entries_of c.args.self.version.now in
    let cells : List PlainCell = plain_cells c.args.row.now.cells.items in
    let trial : RowTrial = c.in_ok-captured-2.field-0 in
    let after : Captured = c.in_ok-with_guards.field-0 in
    let told : RowTold S cells c.args.columns c.in_ok-captured.captured trial =
    along (λ (items : List Cell). RowTold S (plain_cells items) c.args.columns c.in_ok-captured.captured trial) c.as_slice-cells.ensures.value c.in_ok-captured-2.ensures.told in
    let joined : GuardsTold S cells trial.columns (captures_of c.in-Some.captured.captures) c.in-Some-2.joins =
    along (λ (items : List (Option Term)). GuardsTold S cells trial.columns (map maybe_tree items) c.in-Some-2.joins) c.as_slice-captures.ensures.value
    (along (λ (items : List Cell). GuardsTold S (plain_cells items) trial.columns (map maybe_tree c.as_slice-captures.result.now) c.in-Some-2.joins) c.as_slice-cells.ensures.value
    (along (λ (o : Option (List Join)). IfSome o (GuardsTold S (plain_cells c.as_slice-cells.result.now) trial.columns (map maybe_tree c.as_slice-captures.result.now))) c.in-Some-2.is c.in_ok-joins.ensures.told)) in
    along (λ (es : List End). RowTaken S cells c.args.columns (record { captured = Some after; columns = es })) (flip c.in_ok-joins.ensures.kept)
    (row_takes S cells c.args.columns c.variable_count.result c.in_ok-captured.captured c.in_ok-captured.ensures.captures c.in_ok-captured.ensures.joins trial told
    c.in-Some.captured after c.in-Some-2.joins c.in-Some.is joined c.in_ok-with_guards.ensures.captures c.in_ok-with_guards.ensures.joins)

-- ---- a selection

loose_row : (r : Row) (cells : List Cell) (at : Option ℕ) → cells ≡ r.cells.items → at ≡ rigid_at (plain_cells cells) → at ≡ None → rigid_at (row r).cells ≡ None
loose_row r cells at e q is = ap (λ (l : List Cell). rigid_at (plain_cells l)) (flip e) ∙ flip q ∙ is

pub select-returns-in_err-selected-in-None-captured-clause-gives : goal.select-returns-in_err-selected-in-None-captured-clause-gives
select-returns-in_err-selected-in-None-captured-clause-gives t c =
    let S : PlainSignature = entries_of c.args.self.version.now in
    let loose : rigid_at (row c.row-item.result).cells ≡ None = loose_row c.row-item.result c.as_slice.result.now c.rigid_at.result c.as_slice.ensures.value c.rigid_at.ensures.value c.in-None.is in
    let f = row_skipped S c.args.left.now c.row_taken.new.left c.args.columns c.args.rows.now (behind c.args.rows.now) c.row-item.result c.in_ok-captured-in-None.field-0
    (headed c.args.rows.now c.row-item.result c.in-len1-up.len_at_least c.row-item.is) loose c.in_ok-captured-in-None.ensures.gives c.in-None-captured.is in
    grind (arith, common_steps)

pub select-returns-in-Some-captured-clause-told : goal.select-returns-in-Some-captured-clause-told
select-returns-in-Some-captured-clause-told t c =
    let S : PlainSignature = entries_of c.args.self.version.now in
    let loose : rigid_at (row c.row-item.result).cells ≡ None = loose_row c.row-item.result c.as_slice.result.now c.rigid_at.result c.as_slice.ensures.value c.rigid_at.ensures.value c.in-None.is in
    let captured : Captured = c.in-Some-captured.captured in
    let it : Selected = record { captures = captured.captures; rule = c.row-item.result.rule; place = 0; ends = c.in_ok-captured-in-None.field-0.columns; joins = captured.joins } in
    along (λ (rows : List Row). Selects S rows c.args.columns (Some it)) (flip (headed c.args.rows.now c.row-item.result c.in-len1-up.len_at_least c.row-item.is))
    (first_selects S c.row-item.result (behind c.args.rows.now) c.args.columns c.in_ok-captured-in-None.field-0 c.in_ok-captured-in-None.ensures.told loose captured it c.in-Some-captured.is refl)

pub select-returns-in_ok-behind_first-in-None-captured : goal.select-returns-in_ok-behind_first-in-None-captured
select-returns-in_ok-behind_first-in-None-captured t c =
    let S : PlainSignature = entries_of c.args.self.version.now in
    let loose : rigid_at (row c.row-item.result).cells ≡ None = loose_row c.row-item.result c.as_slice.result.now c.rigid_at.result c.as_slice.ensures.value c.rigid_at.ensures.value c.in-None.is in
    let rest : List Row = behind c.args.rows.now in
    let rows : c.args.rows.now ≡ c.row-item.result ∷ behind c.args.rows.now = headed c.args.rows.now c.row-item.result c.in-len1-up.len_at_least c.row-item.is in
    let o : Option Selected = c.in_ok-selected-in-None-captured.selected in
    let after : Option Selected = c.in_ok-behind_first-in-None-captured.field-0 in
    record {
      gives = row_skipped S c.args.left.now c.row_taken.new.left c.args.columns c.args.rows.now rest c.row-item.result c.in_ok-captured-in-None.field-0 rows loose c.in_ok-captured-in-None.ensures.gives c.in-None-captured.is
          ∙ c.in_ok-selected-in-None-captured.ensures.gives ∙ ap (λ (p : Option PlainSelected). Some (p, c.select.new.left)) (flip (next_shown o after c.in_ok-behind_first-in-None-captured.ensures));
      spent = omega arith;
      told = along (λ (rs : List Row). Selects S rs c.args.columns after) (flip rows)
          (next_selects S c.row-item.result rest c.args.columns c.in_ok-captured-in-None.field-0 c.in_ok-captured-in-None.ensures.told loose o after
          c.in_ok-selected-in-None-captured.ensures.told c.in_ok-behind_first-in-None-captured.ensures);
    }

-- ---- the value of a column

pub select_by_value-returns-in_err-deeper-clause-gives : goal.select_by_value-returns-in_err-deeper-clause-gives
select_by_value-returns-in_err-deeper-clause-gives t c =
    let f = value_goes (entries_of c.args.self.version.now) c.args.columns (map row c.args.rows.now) c.args.at c.args.left.now c.in-Some.column (record { depth = c.in-Some.column.depth; told = c.unmoved.result }) (tree c.in_ok-value.value.form)
    c.whnf.new.left c.len-2.result c.cut.new.columns c.pop_front.new.self c.in_ok-parts.parts c.in_ok-columns.columns (map row c.as_slice-kept.result.now) c.in_ok-behind.ensures.before
    (flip c.in_ok-behind.ensures.behind ∙ c.in-Some.ensures.items) c.in_ok-value.ensures.gives (ap (at_depth c.in-Some.column.depth) (c.unmoved.ensures.form ∙ c.in_ok-copy.ensures)) c.in_ok-parts.ensures.columns c.in_ok-columns.ensures
    c.len-2.ensures.value (ap (map row) c.as_slice-kept.ensures.value ∙ c.in_ok-kept.ensures.rows) in
    grind (arith, common_steps)

pub select_by_value-returns : goal.select_by_value-returns
select_by_value-returns t c =
    let S : PlainSignature = entries_of c.args.self.version.now in
    let column : End = c.in-Some.column in
    let value : Told = c.in_ok-value.value in
    let own : End = record { depth = column.depth; told = c.unmoved.result } in
    let items : c.as_slice-kept.result.now ≡ c.in_ok-kept.kept.items = c.as_slice-kept.ensures.value in
    let cut : drop c.args.at c.args.columns ≡ c.in-Some.column ∷ c.pop_front.new.self = flip c.in_ok-behind.ensures.behind ∙ c.in-Some.ensures.items in
    record {
      gives = value_goes S c.args.columns (map row c.args.rows.now) c.args.at c.args.left.now column own (tree value.form) c.whnf.new.left c.len-2.result c.cut.new.columns c.pop_front.new.self c.in_ok-parts.parts c.in_ok-columns.columns
          (map row c.as_slice-kept.result.now) c.in_ok-behind.ensures.before cut c.in_ok-value.ensures.gives (ap (at_depth column.depth) (c.unmoved.ensures.form ∙ c.in_ok-copy.ensures))
          c.in_ok-parts.ensures.columns c.in_ok-columns.ensures c.len-2.ensures.value (ap (map row) items ∙ c.in_ok-kept.ensures.rows)
          ∙ c.in_ok-deeper.ensures.gives ∙ ap (λ (o : Option PlainSelected). Some (o, c.select.new.left)) (flip c.in_ok-folded.ensures.selected);
      spent = omega arith;
      told = value_selects S c.args.at column.depth c.len-2.result value c.in_ok-told.told c.args.columns c.cut.new.columns c.pop_front.new.self c.in_ok-parts.parts c.in_ok-columns.columns
          column own c.args.rows.now c.in_ok-kept.kept.items c.in_ok-deeper.deeper c.in_ok-folded.field-0 c.in_ok-behind.ensures.before cut refl c.in_ok-value.ensures.told c.in_ok-told.ensures.leads c.in_ok-told.ensures.form
          refl (along (λ (x : Tree). AlwaysLeadsTo x c.unmoved.result) c.in_ok-copy.ensures c.unmoved.ensures.leads) c.in_ok-parts.ensures.columns c.in_ok-parts.ensures.leads c.in_ok-columns.ensures
          c.len-2.ensures.value c.in_ok-kept.ensures.from (along (λ (rows : List Row). Selects S rows c.in_ok-columns.columns c.in_ok-deeper.deeper) items c.in_ok-deeper.ensures.told)
          (along (λ (rows : List Row). Folded c.args.at column.depth c.in_ok-told.told c.args.rows.now rows c.in_ok-deeper.deeper c.in_ok-folded.field-0) items c.in_ok-folded.ensures.told);
    }

-- ---- the rule that is taken

rewritten_by : (t : Tree) (S : PlainSignature) (k : ℕ) (columns : List End) (items first second : List Row) (o : Option Selected) (it : Selected) (told : Told) → first ≡ items → second ≡ items → o ≡ Some it
    → head_symbol t ≡ Some k → Begins S k t columns items → Selects S first columns o → Rewrites t second it told
    → LeadsTo S t told × (tree told.form ≡ rewritten t (plain_selected it))
rewritten_by t S k columns items first second o it told e q i h b s r =
    along (λ (rs : List Row). Rewrites t rs it told) q r S k columns h b
    (along (λ (rs : List Row). Selects S rs columns (Some it)) e (along (Selects S first columns) i s))

pub rewrite-returns-in-Some-clause-told : goal.rewrite-returns-in-Some-clause-told
rewrite-returns-in-Some-clause-told t c =
    (rewritten_by (tree c.args.term.now) (entries_of c.args.self.version.now) c.args.symbol c.in_ok-columns.columns c.in_ok-columns.rows.items c.as_slice.result.now c.as_slice-in-Some.result.now
    c.in_ok-selected.field-0 c.in-Some.selected c.in_ok-taken-in-Some.field-0 c.as_slice.ensures.value c.as_slice-in-Some.ensures.value c.in-Some.is c.requires c.in_ok-columns.ensures.begins
    c.in_ok-selected.ensures.told c.in_ok-taken-in-Some.ensures).0

pub rewrite-returns-in-Some-clause-gives : goal.rewrite-returns-in-Some-clause-gives
rewrite-returns-in-Some-clause-gives t c =
    let S : PlainSignature = entries_of c.args.self.version.now in
    let form = (rewritten_by (tree c.args.term.now) (entries_of c.args.self.version.now) c.args.symbol c.in_ok-columns.columns c.in_ok-columns.rows.items c.as_slice.result.now c.as_slice-in-Some.result.now
    c.in_ok-selected.field-0 c.in-Some.selected c.in_ok-taken-in-Some.field-0 c.as_slice.ensures.value c.as_slice-in-Some.ensures.value c.in-Some.is c.requires c.in_ok-columns.ensures.begins
    c.in_ok-selected.ensures.told c.in_ok-taken-in-Some.ensures).1 in
    rewrite_goes S c.args.symbol c.args.left.now (tree c.args.term.now) c.in_ok-columns.columns c.in_ok-columns.rows.items c.select.new.left c.in-Some.selected c.in_ok-taken-in-Some.field-0
    c.in_ok-columns.ensures.columns c.in_ok-columns.ensures.rows
    (ap (λ (rs : List Row). selection_of S c.args.left.now (columns_of c.in_ok-columns.columns) (map row rs)) (flip c.as_slice.ensures.value) ∙ c.in_ok-selected.ensures.gives
    ∙ ap (λ (o : Option Selected). Some (selected o, c.select.new.left)) c.in-Some.is) form

-- ---- comparisons

pub same-returns-then-equal-clause-told : goal.same-returns-then-equal-clause-told
same-returns-then-equal-clause-told t c = equal_meet (entries_of c.args.self.version.now) (tree c.args.t.now) (tree c.args.u.now) c.in_ok-met_same.field-0
    (flip c.equal.ensures ∙ c.if-equal.true) c.in_ok-met_same.ensures.meets

pub same-returns-in_ok-met_behind-in-Some-clause-told : goal.same-returns-in_ok-met_behind-in-Some-clause-told
same-returns-in_ok-met_behind-in-Some-clause-told t c =
    let S : PlainSignature = entries_of c.args.self.version.now in
    c.in_ok-met_behind-in-Some.ensures.meets S (tree c.args.t.now) (tree c.args.u.now) c.in_ok-first.ensures.told c.in_ok-second.ensures.told
    (along (λ (o : Option Meeting). IfSome o (MeetIn S (tree c.in_ok-first.first.form) (tree c.in_ok-second.second.form))) c.in-Some.is c.in_ok-met.ensures.told)

pub heads_same-returns-in_ok-met_application-in-App-App-clause-told : goal.heads_same-returns-in_ok-met_application-in-App-App-clause-told
heads_same-returns-in_ok-met_application-in-App-App-clause-told t c =
    let f : Tree = tree c.deref.result.now in
    let g : Tree = tree c.deref-in-App-App.result.now in
    meet_together (entries_of c.args.self.version.now) apply (tree c.args.t.now) (tree c.args.u.now) f (tree c.deref-in-App-App-2.result.now) g (tree c.deref-in-App-App-3.result.now)
    c.in_ok-functions-in-App-App.field-0 c.in_ok-arguments-in-App-App.field-0 c.in-Some.functions c.in-Some-2.arguments c.in_ok-met_application-in-App-App.field-0
    (ap tree c.in-App-App.is-0 ∙ ap (λ (x : Term). apply (tree x) (tree c.in-App-App.a.value)) (flip c.deref.ensures) ∙ ap (λ (x : Term). apply f (tree x)) (flip c.deref-in-App-App-2.ensures))
    (ap tree c.in-App-App.is-1 ∙ ap (λ (x : Term). apply (tree x) (tree c.in-App-App.b.value)) (flip c.deref-in-App-App.ensures) ∙ ap (λ (x : Term). apply g (tree x)) (flip c.deref-in-App-App-3.ensures))
    c.in-Some.is c.in-Some-2.is c.in_ok-functions-in-App-App.ensures.told c.in_ok-arguments-in-App-App.ensures.told c.in_ok-met_application-in-App-App.ensures.meets

pub heads_same-returns-in_ok-met_product-in-Prod-Prod-clause-told : goal.heads_same-returns-in_ok-met_product-in-Prod-Prod-clause-told
heads_same-returns-in_ok-met_product-in-Prod-Prod-clause-told t c =
    let f : Tree = tree c.deref-in-Prod-Prod.result.now in
    let g : Tree = tree c.deref-in-Prod-Prod-2.result.now in
    meet_together (entries_of c.args.self.version.now) product (tree c.args.t.now) (tree c.args.u.now) f (tree c.deref-in-Prod-Prod-3.result.now) g (tree c.deref-in-Prod-Prod-4.result.now)
    c.in_ok-domains-in-Prod-Prod.field-0 c.in_ok-codomains-in-Prod-Prod.field-0 c.in-Some-4.domains c.in-Some-5.codomains c.in_ok-met_product-in-Prod-Prod.field-0
    (ap tree c.in-Prod-Prod.is-0 ∙ ap (λ (x : Term). product (tree x) (tree c.in-Prod-Prod.b.value)) (flip c.deref-in-Prod-Prod.ensures) ∙ ap (λ (x : Term). product f (tree x)) (flip c.deref-in-Prod-Prod-3.ensures))
    (ap tree c.in-Prod-Prod.is-1 ∙ ap (λ (x : Term). product (tree x) (tree c.in-Prod-Prod.d.value)) (flip c.deref-in-Prod-Prod-2.ensures) ∙ ap (λ (x : Term). product g (tree x)) (flip c.deref-in-Prod-Prod-4.ensures))
    c.in-Some-4.is c.in-Some-5.is c.in_ok-domains-in-Prod-Prod.ensures.told c.in_ok-codomains-in-Prod-Prod.ensures.told c.in_ok-met_product-in-Prod-Prod.ensures.meets

pub heads_same-returns-in_ok-met_body-in-Some-3-clause-told : goal.heads_same-returns-in_ok-met_body-in-Some-3-clause-told
heads_same-returns-in_ok-met_body-in-Some-3-clause-told t c =
    let b : Tree = tree c.in_ok-b-in-Abs-None-default-Abs-None-default.b.now in
    let d : Tree = tree c.in_ok-b-in-Abs-None-default-Abs-None-default.c.now in
    meet_around (entries_of c.args.self.version.now) bare (tree c.args.t.now) (tree c.args.u.now) b d
    c.in_ok-bodies-in-Abs-None-default-Abs-None-default.field-0 c.in-Some-3.bodies c.in_ok-met_body-in-Some-3.field-0
    c.in_ok-b-in-Abs-None-default-Abs-None-default.ensures.first c.in_ok-b-in-Abs-None-default-Abs-None-default.ensures.second
    c.in-Some-3.is c.in_ok-bodies-in-Abs-None-default-Abs-None-default.ensures.told c.in_ok-met_body-in-Some-3.ensures.meets
