-- The rule that is taken, as a step of the term.
use Rattle.std.proofs.Common.{List, [], ◌∷◌, ◌≡◌, ◌≤◌, ℕ, zero, suc, Bool, true, false, Some, ap, ◌∙◌, map, max, length, refl, arith, subst as along, sym as flip, slice_get, nat_lt, if◌then◌else◌, option_map}
use Rattle.std.proofs.lemmas.Option.{slice_get-map}
use Rattle.std.proofs.lemmas.List.Elements.{All-weaker}
use Rattle.std.proofs.lemmas.Bool.Decides.{nat_tests}
use Rattle.dk_model.specs.Signatures.{PlainSignature, PlainRule}
use Rattle.dk_model.specs.Units.{Units, bind}
use Rattle.dk_model.specs.Spines.{arguments}
use Rattle.dk_model.specs.SymbolRules.{rules_of}
use Rattle.dk_model.specs.Matrix.{Cell, first_cells, width, Column as PlainColumn, Row as PlainRow}
use Rattle.dk_model.specs.Captures.{filled}
use Rattle.dk_model.specs.Evaluation.{whnf_of, columns, rows, rewritten}
use Rattle.dk_model.specs.Equations.{selection_of, after_selection}
use Rattle.certificate_items.specs.Views.{plain_joins}
use Rattle.tree_evaluation.specs.Views.{Join, SymbolRule, Told, End, Row, Selected, plain_cell, plain_selected, captures_of, rule, row, Tree, tree, columns_of}
use Rattle.told_steps.specs.Ends.{IsTakenRule, Fires}
use Rattle.told_steps.specs.declared.firing.TakenRule.{TakenRule}
use Rattle.tree_evaluation.specs.Answers.{by_selection, form_told}
use Rattle.tree_evaluation.specs.Tellings.{AreFirstRows, AreUnmoved, IsFirstRow, IsRuleRow, Begins, SelectedRow, Rewrites, TakesEnds, first_columns}
use Rattle.tree_evaluation.proofs.Lists.{unmoved_ends}
use Rattle.tree_evaluation.proofs.Rows.{each_at}

-- ---- the first columns and rows

wide_next : (count : ℕ) (r s : PlainRule) (rs : List PlainRule) (b : Bool) → nat_lt count (length s.pats) ≡ b → length r.pats ≤ width count rs
    → length r.pats ≤ (if b then width count rs else max (length s.pats) (width count rs))
wide_next count r s rs true e h = h
wide_next count r s rs false e h = omega arith

wide_here : (count : ℕ) (r : PlainRule) (rs : List PlainRule) (b : Bool) → nat_lt count (length r.pats) ≡ b → length r.pats ≤ count
    → length r.pats ≤ (if b then width count rs else max (length r.pats) (width count rs))
wide_here count r rs true e h = absurd (grind (arith, nat_tests))
wide_here count r rs false e h = omega arith

-- the columns are enough for each rule of no more patterns
wide_enough : (count : ℕ) (rs : List PlainRule) (i : ℕ) (r : PlainRule) → slice_get rs i ≡ Some r → length r.pats ≤ count → length r.pats ≤ width count rs
wide_enough count [] i r e h = cc
wide_enough count (s ∷ rs) zero r e h =
    let q : s ≡ r = cc in
    along (λ (x : PlainRule). length r.pats ≤ (if nat_lt count (length x.pats) then width count rs else max (length x.pats) (width count rs))) (flip q)
    (wide_here count r rs (nat_lt count (length r.pats)) refl h)
wide_enough count (s ∷ rs) (suc i) r e h = wide_next count r s rs (nat_lt count (length s.pats)) refl (wide_enough count rs i r e h)

module _ (S : PlainSignature) (k : ℕ) (t : Tree) (rules : List SymbolRule) (count wide : ℕ) where
  rule_row : (r : Row) → map rule rules ≡ rules_of S k → count ≡ length (arguments t) → wide ≡ width count (map rule rules)
      → IsFirstRow wide count rules r → IsRuleRow S k t wide r
  rule_row r e n w f =
      let there : slice_get (map rule rules) r.from ≡ Some (rule r.rule) = slice_get-map rule rules r.from ∙ ap (option_map rule) f.numbered in
      record {
        numbered = ap (λ (l : List PlainRule). slice_get l r.from) (flip e) ∙ there;
        cells = f.cells;
        enough_columns = along (λ (m : ℕ). length (rule r.rule).pats ≤ m) (flip w) (wide_enough count (map rule rules) r.from (rule r.rule) there f.few);
        enough_arguments = along (λ (m : ℕ). length (rule r.rule).pats ≤ m) n f.few;
      }

  pub begins : (cs : List End) (rs : List Row) → map rule rules ≡ rules_of S k → count ≡ length (arguments t) → wide ≡ width count (map rule rules)
      → columns_of cs ≡ first_columns wide t → AreUnmoved cs → AreFirstRows wide count rules rs → Begins S k t cs rs
  begins cs rs e n w c u f = record {
    wide = wide;
    ends = unmoved_ends S cs (first_columns wide t) u c;
    first = All-weaker (IsFirstRow wide count rules) (IsRuleRow S k t wide) (λ r h. rule_row r e n w h) rs f;
  }

-- ---- the rule that is taken

module _ (t : Tree) (rs : List Row) (it : Selected) (told : Told) (own : Row) (taken : TakenRule) where
  pub rewrites : slice_get rs it.place ≡ Some own → taken.number ≡ own.from → taken.patterns ≡ length (rule it.rule).pats → taken.joins ≡ it.joins
      → tree taken.right ≡ filled (captures_of it.captures) 0 (rule it.rule).right → Fires t taken it.ends told → Rewrites t rs it told
  rewrites e n c j f fires S k cs h b sel =
      let s : SelectedRow S rs (first_columns b.wide t) it = sel (first_columns b.wide t) b.ends in
      let own_is : s.own ≡ own = (let q : Some s.own ≡ Some own = flip s.stands ∙ e in cc) in
      let r : IsRuleRow S k t b.wide s.own = each_at (IsRuleRow S k t b.wide) rs it.place s.own b.first s.stands in
      let same : rule s.own.rule ≡ rule it.rule = ap rule s.same_rule in
      let number : taken.number ≡ s.own.from = n ∙ flip (ap (λ (x : Row). x.from) own_is) in
      let is_taken : IsTakenRule S t taken b.wide (rule it.rule) = record {
        head = k;
        symbol = h;
        numbered = ap (slice_get (rules_of S k)) number ∙ r.numbered ∙ ap (λ (x : PlainRule). Some x) same;
        patterns = flip c;
        enough_columns = along (λ (m : ℕ). m ≤ b.wide) (ap (λ (x : PlainRule). length x.pats) same ∙ flip c) r.enough_columns;
        enough_arguments = along (λ (m : ℕ). m ≤ length (arguments t)) (ap (λ (x : PlainRule). length x.pats) same ∙ flip c) r.enough_arguments;
      } in
      let cells : map plain_cell s.own.cells.items ≡ first_cells b.wide (rule it.rule) = r.cells ∙ ap (first_cells b.wide) same in
      let ends : TakesEnds S (first_columns b.wide t) (first_cells b.wide (rule it.rule)) it.ends (captures_of it.captures) (plain_joins taken.joins) =
      along (λ (js : List Join). TakesEnds S (first_columns b.wide t) (first_cells b.wide (rule it.rule)) it.ends (captures_of it.captures) (plain_joins js)) (flip j)
      (along (λ (xs : List Cell). TakesEnds S (first_columns b.wide t) xs it.ends (captures_of it.captures) (plain_joins it.joins)) cells s.takes) in
      fires S b.wide (rule it.rule) (captures_of it.captures) is_taken ends f

-- ---- the weak head form by a rule

module _ (S : PlainSignature) (k n : ℕ) (t : Tree) (cs : List End) (rs : List Row) where
  abbrev by_these : Units Tree
  by_these = bind (selection_of S n (columns_of cs) (map row rs)) (after_selection S t)

  these : columns_of cs ≡ columns S k t → map row rs ≡ rows S k t → by_selection S k t n ≡ by_these
  these c r =
      ap (λ (l : List PlainColumn). bind (selection_of S n l (rows S k t)) (after_selection S t)) (flip c)
      ∙ ap (λ (l : List PlainRow). bind (selection_of S n (columns_of cs) l) (after_selection S t)) (flip r)

  pub rewrite_goes : (m : ℕ) (it : Selected) (told : Told) → columns_of cs ≡ columns S k t → map row rs ≡ rows S k t
      → selection_of S n (columns_of cs) (map row rs) ≡ Some (Some (plain_selected it), m)
      → tree told.form ≡ rewritten t (plain_selected it) → by_selection S k t n ≡ whnf_of S m (form_told told)
  rewrite_goes m it told c r e f = these c r ∙ ap (λ x. bind x (after_selection S t)) e ∙ ap (whnf_of S m) (flip f)
