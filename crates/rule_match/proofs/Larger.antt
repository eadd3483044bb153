-- A matcher in a larger pool, and what it goes on with once an answer is there.
use Rattle.std.proofs.Common.{List, [], ◌∷◌, Option, Some, None, Vec, Global, ◌≡◌, ◌+◌, ◌<◌, ℕ, zero, suc, map, Bool, true, false, refl, ap, ◌∙◌, sym as flip, subst, drop, length, if◌then◌else◌}
use Rattle.std.specs.Prelude.{slice_get}
use Rattle.dk_model.specs.Trees.{Tree}
use Rattle.dk_model.specs.Signatures.{PlainRule, PlainSignature}
use Rattle.dk_model.specs.Units.{Units, bind}
use Rattle.dk_model.specs.Evaluation.{whnf_of, comparison_of, normal_of}
use Rattle.dk_model.specs.Selection.{Selected}
use Rattle.dk_model.specs.Matrix.{cell_at}
use Rattle.shared_term.specs.declared.id.TermId.{TermId}
use Rattle.shared_term.specs.Pools.{Node, term, Extends}
use Rattle.shared_term.specs.Changes.{captured_terms}
use Rattle.rule_match.specs.declared.matcher.Answer.{Answer}
use Rattle.rule_match.specs.declared.matcher.Answer.TheVariants.{Value, Yes, No, Normal}
use Rattle.rule_match.specs.declared.matcher.Ask.TheVariants.{Evaluate, Escape, Same, Take, Nothing}
use Rattle.rule_match.specs.declared.matcher.Stage.{Stage}
use Rattle.rule_match.specs.declared.matcher.Stage.TheVariants.{Begins, Evaluates, Escapes, Compares, Guards, Ends}
use Rattle.rule_match.specs.declared.matcher.Matcher.{Matcher}
use Rattle.rule_match.specs.Rows.{row, rule_at}
use Rattle.rule_match.specs.Columns.{plain}
use Rattle.rule_match.specs.Remaining.{rows_left}
use Rattle.rule_match.specs.Trying.{column_at}
use Rattle.rule_match.specs.Standing.{with_value, after_cell, cell_normal, cell_compared, guard_compared, finished, decided}
use Rattle.rule_match.specs.Matching.{IsMatcher, IsAnswer, Awaits, AsksFor, answered, term_in, after_value, after_compared, after_guard, after_normal}
use Rattle.rule_match.specs.Selecting.{terms_in}
use Rattle.rule_match.specs.declared.value.Column.{Column}
use Rattle.rule_match.proofs.Telling.{alike_fits}
use Rattle.rule_match.proofs.Growing.{columns_grown, columns_within, captures_grown, captures_within}

pub matcher_grown : (old new : List Node) (m : Matcher) → Extends old new → IsMatcher (length old) m → IsMatcher (length new) m
matcher_grown old new m x h = record {
  columns = columns_within old new m.columns.items x h.columns;
  captures = captures_within old new m.captures.items x h.captures;
  tried = h.tried;
  placed = h.placed;
  stage = h.stage;
}

-- the term in a column

term_seen : (ns : List Node) (cols : List Column) (i : ℕ) (t : TermId) → slice_get (map (λ (c : Column). c.term) cols) i ≡ Some t → (column_at (plain ns cols) i).term ≡ term ns t
term_seen ns [] i t e = cc
term_seen ns (c ∷ cols) zero t e = let q : c.term ≡ t = cc in ap (term ns) q
term_seen ns (c ∷ cols) (suc i) t e = term_seen ns cols i t e

term_asked : (ns : List Node) (m : Matcher) (i j : ℕ) (t : TermId) → j ≡ i → slice_get (terms_in m) i ≡ Some t → term_in ns m j ≡ term ns t
term_asked ns m i j t w q = ap (λ (k : ℕ). term_in ns m k) w ∙ term_seen ns m.columns.items i t q

module _ (S : PlainSignature) (rules : List PlainRule) (old new : List Node) (m : Matcher) (x : Extends old new) (h : IsMatcher (length old) m) where
  cols : plain new m.columns.items ≡ plain old m.columns.items
  cols = columns_grown old new m.columns.items x h.columns

  caps : captured_terms new m.captures.items ≡ captured_terms old m.captures.items
  caps = captures_grown old new m.captures.items x h.captures

  value_grown : (i : ℕ) (v : Tree) (n : ℕ) → with_value S (plain new m.columns.items) (drop m.tried (rows_left rules m.left)) i (column_at (plain new m.columns.items) i).depth v n
      ≡ with_value S (plain old m.columns.items) (drop m.tried (rows_left rules m.left)) i (column_at (plain old m.columns.items) i).depth v n
  value_grown i v n = λ j. with_value S (cols j) (drop m.tried (rows_left rules m.left)) i (column_at (cols j) i).depth v n

  compared_grown : (i : ℕ) (b : Bool) (n : ℕ)
      → bind (bind (cell_compared (column_at (plain new m.columns.items) i) (captured_terms new m.captures.items) b n) (after_cell (normal_of S) (comparison_of S) (row rules m.row).cells (plain new m.columns.items) i)) (finished S (row rules m.row) (drop (m.tried + 1) (rows_left rules m.left)))
      ≡ bind (bind (cell_compared (column_at (plain old m.columns.items) i) (captured_terms old m.captures.items) b n) (after_cell (normal_of S) (comparison_of S) (row rules m.row).cells (plain old m.columns.items) i)) (finished S (row rules m.row) (drop (m.tried + 1) (rows_left rules m.left)))
  compared_grown i b n = λ j.
      bind (bind (cell_compared (column_at (cols j) i) (caps j) b n) (after_cell (normal_of S) (comparison_of S) (row rules m.row).cells (cols j) i)) (finished S (row rules m.row) (drop (m.tried + 1) (rows_left rules m.left)))

  guard_grown : (i : ℕ) (b : Bool) (n : ℕ)
      → bind (guard_compared (comparison_of S) (row rules m.row).cells (plain new m.columns.items) (i + 1) (captured_terms new m.captures.items) b n) (decided S (row rules m.row) (drop (m.tried + 1) (rows_left rules m.left)) (plain new m.columns.items) (captured_terms new m.captures.items))
      ≡ bind (guard_compared (comparison_of S) (row rules m.row).cells (plain old m.columns.items) (i + 1) (captured_terms old m.captures.items) b n) (decided S (row rules m.row) (drop (m.tried + 1) (rows_left rules m.left)) (plain old m.columns.items) (captured_terms old m.captures.items))
  guard_grown i b n = λ j.
      bind (guard_compared (comparison_of S) (row rules m.row).cells (cols j) (i + 1) (caps j) b n) (decided S (row rules m.row) (drop (m.tried + 1) (rows_left rules m.left)) (cols j) (caps j))

  -- an answer, and how a selection that asked for it goes on, in the larger pool

  pub value_told : (st : Stage) (i : ℕ) (t v : TermId) (due : ℕ → Units (Option Selected)) (n k : ℕ) → Awaits st (Evaluate i) → slice_get (terms_in m) i ≡ Some t → AsksFor S rules old m st (Evaluate i) due
      → whnf_of S n (term old t) ≡ Some (term new v, k) → due n ≡ answered S rules new m st (Value v) k
  value_told Begins i t v due n k w q h e = absurd h
  value_told (Evaluates j) i t v due n k w q h e =
      h n ∙ ap (λ (y : Units Tree). bind y (after_value S rules old m j)) (ap (whnf_of S n) (term_asked old m i j t w q) ∙ e) ∙ flip (value_grown j (term new v) k)
  value_told (Escapes j) i t v due n k w q h e = absurd h
  value_told (Compares j) i t v due n k w q h e = absurd h
  value_told (Guards j) i t v due n k w q h e = absurd h
  value_told Ends i t v due n k w q h e = absurd h

  pub alike_told : (st : Stage) (a b : TermId) (due : ℕ → Units (Option Selected)) (n k : ℕ) (alike : Bool) (answer : Answer) → AsksFor S rules old m st (Same a b) due
      → comparison_of S n (term old a) (term old b) ≡ Some (alike, k) → answer ≡ (if alike then Yes else No) → due n ≡ answered S rules new m st answer k
  alike_told Begins a b due n k alike answer h e q = absurd h
  alike_told (Evaluates i) a b due n k alike answer h e q = absurd h
  alike_told (Escapes i) a b due n k alike answer h e q = absurd h
  alike_told (Compares i) a b due n k alike answer h e q = by alike answer e q
    where
      by : (t : Bool) (w : Answer) → comparison_of S n (term old a) (term old b) ≡ Some (t, k) → w ≡ (if t then Yes else No) → due n ≡ answered S rules new m (Compares i) w k
      by true w e q = h n ∙ ap (λ (y : Units Bool). bind y (after_compared S rules old m i)) e ∙ flip (compared_grown i true k) ∙ ap (λ (z : Answer). answered S rules new m (Compares i) z k) (flip q)
      by false w e q = h n ∙ ap (λ (y : Units Bool). bind y (after_compared S rules old m i)) e ∙ flip (compared_grown i false k) ∙ ap (λ (z : Answer). answered S rules new m (Compares i) z k) (flip q)
  alike_told (Guards i) a b due n k alike answer h e q = by alike answer e q
    where
      by : (t : Bool) (w : Answer) → comparison_of S n (term old a) (term old b) ≡ Some (t, k) → w ≡ (if t then Yes else No) → due n ≡ answered S rules new m (Guards i) w k
      by true w e q = h n ∙ ap (λ (y : Units Bool). bind y (after_guard S rules old m i)) e ∙ flip (guard_grown i true k) ∙ ap (λ (z : Answer). answered S rules new m (Guards i) z k) (flip q)
      by false w e q = h n ∙ ap (λ (y : Units Bool). bind y (after_guard S rules old m i)) e ∙ flip (guard_grown i false k) ∙ ap (λ (z : Answer). answered S rules new m (Guards i) z k) (flip q)
  alike_told Ends a b due n k alike answer h e q = absurd h

  pub normal_told : (st : Stage) (t u : TermId) (due : ℕ → Units (Option Selected)) (n k : ℕ) → AsksFor S rules old m st (Escape t) due
      → normal_of S n (term old t) ≡ Some (term new u, k) → due n ≡ answered S rules new m st (Normal u) k
  normal_told Begins t u due n k h e = absurd h
  normal_told (Evaluates i) t u due n k h e = absurd h
  normal_told (Escapes i) t u due n k h e =
      h n ∙ ap (λ (y : Units Tree). bind y (after_normal S rules old m i)) e
      ∙ flip (λ j. bind (bind (cell_normal (normal_of S) (comparison_of S) (cell_at (row rules m.row).cells i) (column_at (cols j) i) (caps j) (term new u) k) (after_cell (normal_of S) (comparison_of S) (row rules m.row).cells (cols j) i)) (finished S (row rules m.row) (drop (m.tried + 1) (rows_left rules m.left))))
  normal_told (Compares i) t u due n k h e = absurd h
  normal_told (Guards i) t u due n k h e = absurd h
  normal_told Ends t u due n k h e = absurd h

module _ (S : PlainSignature) (rules : List PlainRule) (ns : List Node) (m : Matcher) where
  -- a rule is taken, or none
  pub rule_taken : (st : Stage) (at : ℕ) (cs : Vec (Option TermId) Global) (due : ℕ → Units (Option Selected)) → AsksFor S rules ns m st (Take at cs) due
      → (at < length rules) × ((n : ℕ) → due n ≡ Some (Some (record { captures = captured_terms ns cs.items; rule = rule_at rules at }), n))
  rule_taken Begins at cs due h = absurd h
  rule_taken (Evaluates j) at cs due h = absurd h
  rule_taken (Escapes j) at cs due h = absurd h
  rule_taken (Compares j) at cs due h = absurd h
  rule_taken (Guards j) at cs due h = absurd h
  rule_taken Ends at cs due h = h

  pub none_taken : (st : Stage) (due : ℕ → Units (Option Selected)) → AsksFor S rules ns m st Nothing due → (n : ℕ) → due n ≡ Some (None, n)
  none_taken Begins due h n = absurd h
  none_taken (Evaluates j) due h n = absurd h
  none_taken (Escapes j) due h n = absurd h
  none_taken (Compares j) due h n = absurd h
  none_taken (Guards j) due h n = absurd h
  none_taken Ends due h n = h n

  -- what was asked for isn't there

  pub value_ends : (st : Stage) (i : ℕ) (t : TermId) (due : ℕ → Units (Option Selected)) (n : ℕ) → Awaits st (Evaluate i) → slice_get (terms_in m) i ≡ Some t → AsksFor S rules ns m st (Evaluate i) due
      → whnf_of S n (term ns t) ≡ None → due n ≡ None
  value_ends Begins i t due n w q h e = absurd h
  value_ends (Evaluates j) i t due n w q h e = h n ∙ ap (λ (y : Units Tree). bind y (after_value S rules ns m j)) (ap (whnf_of S n) (term_asked ns m i j t w q) ∙ e)
  value_ends (Escapes j) i t due n w q h e = absurd h
  value_ends (Compares j) i t due n w q h e = absurd h
  value_ends (Guards j) i t due n w q h e = absurd h
  value_ends Ends i t due n w q h e = absurd h

  pub normal_ends : (st : Stage) (t : TermId) (due : ℕ → Units (Option Selected)) (n : ℕ) → AsksFor S rules ns m st (Escape t) due → normal_of S n (term ns t) ≡ None → due n ≡ None
  normal_ends Begins t due n h e = absurd h
  normal_ends (Evaluates i) t due n h e = absurd h
  normal_ends (Escapes i) t due n h e = h n ∙ ap (λ (y : Units Tree). bind y (after_normal S rules ns m i)) e
  normal_ends (Compares i) t due n h e = absurd h
  normal_ends (Guards i) t due n h e = absurd h
  normal_ends Ends t due n h e = absurd h

  pub alike_ends : (st : Stage) (a b : TermId) (due : ℕ → Units (Option Selected)) (n : ℕ) → AsksFor S rules ns m st (Same a b) due → comparison_of S n (term ns a) (term ns b) ≡ None → due n ≡ None
  alike_ends Begins a b due n h e = absurd h
  alike_ends (Evaluates i) a b due n h e = absurd h
  alike_ends (Escapes i) a b due n h e = absurd h
  alike_ends (Compares i) a b due n h e = h n ∙ ap (λ (y : Units Bool). bind y (after_compared S rules ns m i)) e
  alike_ends (Guards i) a b due n h e = h n ∙ ap (λ (y : Units Bool). bind y (after_guard S rules ns m i)) e
  alike_ends Ends a b due n h e = absurd h

pub alike_answers : (n : ℕ) (st : Stage) (a b : TermId) (alike : Bool) (answer : Answer) → Awaits st (Same a b) → answer ≡ (if alike then Yes else No) → IsAnswer n st answer
alike_answers n st a b true answer w e = subst (λ (x : Answer). IsAnswer n st x) (flip e) (alike_fits n st a b w).0
alike_answers n st a b false answer w e = subst (λ (x : Answer). IsAnswer n st x) (flip e) (alike_fits n st a b w).1
