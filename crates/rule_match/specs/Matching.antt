-- For proofs: what a matcher stands for: what is left of a selection, and what it asks for next.
use Rattle.std.specs.Prelude.{ℕ, ◌≡◌, ◌<◌, ◌+◌, ◌^◌, Option, Some, None, Bool, true, false, List, map, length, take, drop}
use Rattle.dk_model.specs.Trees.{Tree}
use Rattle.dk_model.specs.Signatures.{PlainRule, PlainSignature}
use Rattle.dk_model.specs.Units.{Units, bind}
use Rattle.dk_model.specs.Matrix.{cell_at, rows_for, width}
use Rattle.dk_model.specs.Selection.{Selected}
use Rattle.dk_model.specs.Evaluation.{whnf_of, comparison_of, normal_of}
use Rattle.dk_model.specs.Equations.{selection_of}
use Rattle.shared_term.specs.declared.id.TermId.{TermId}
use Rattle.shared_term.specs.Pools.{Node as PoolNode, term}
use Rattle.shared_term.specs.Changes.{AreCaptures, captured_terms}
use Rattle.rule_match.specs.declared.matcher.Answer.{Answer}
use Rattle.rule_match.specs.declared.matcher.Answer.TheVariants.{Begin, Value, Yes, No, Normal}
use Rattle.rule_match.specs.declared.matcher.Ask.{Ask}
use Rattle.rule_match.specs.declared.matcher.Ask.TheVariants.{Evaluate, Escape, Same, Take, Nothing}
use Rattle.rule_match.specs.declared.matcher.Stage.{Stage}
use Rattle.rule_match.specs.declared.matcher.Stage.TheVariants.{Begins, Evaluates, Escapes, Compares, Guards, Ends}
use Rattle.rule_match.specs.declared.matcher.Matcher.{Matcher}
use Rattle.rule_match.specs.Rows.{row, rule_at}
use Rattle.rule_match.specs.Columns.{plain, argument_column, from_top, AreColumns}
use Rattle.rule_match.specs.Remaining.{rows_left, IsSource, IsLeftOf, rule_count, ArePlaced}
use Rattle.rule_match.specs.Trying.{column_at}
use Rattle.rule_match.specs.Standing.{after_cell, cell_normal, cell_compared, guard_compared, finished, decided, capturing, guarding, with_value}

-- what was asked for is one of so many columns, and of so many cells
abbrev pub IsStage : ℕ → ℕ → Stage → Type 0
IsStage n k (Evaluates i) = i < n
IsStage n k (Escapes i) = (i < n) × (i < k)
IsStage n k (Compares i) = i < n
IsStage n k (Guards i) = i < n
IsStage n k stage = Unit {0}

-- the row that is tried is of one of so many rules, and can be counted
pub record IsTried (count at tried : ℕ) : Type 0 where
  pub there : at < count
  pub counted : tried + 1 < 2 ^ 64

-- that, while an answer for the row that is tried is awaited
abbrev pub Tries : ℕ → ℕ → ℕ → Stage → Type 0
Tries count at tried (Escapes i) = IsTried count at tried
Tries count at tried (Compares i) = IsTried count at tried
Tries count at tried (Guards i) = IsTried count at tried
Tries count at tried stage = Unit {0}

-- the terms of a matcher are of a pool of so many nodes, and its rows have the places of rules
pub record IsMatcher (n : ℕ) (m : Matcher) : Type 0 where
  pub columns : AreColumns n m.columns.items
  pub captures : AreCaptures n m.captures.items
  pub stage : IsStage (length m.columns.items) (length m.row.cells.items) m.stage
  pub tried : Tries (rule_count m.source) m.row.at m.tried m.stage
  pub placed : ArePlaced m.source m.left

-- the answer is of the kind that was asked for last, and its term of a pool of so many nodes
abbrev pub IsAnswer : ℕ → Stage → Answer → Type 0
IsAnswer n Begins Begin = Unit {0}
IsAnswer n (Evaluates i) (Value v) = v.0 < n
IsAnswer n (Escapes i) (Normal u) = u.0 < n
IsAnswer n (Compares i) Yes = Unit {0}
IsAnswer n (Compares i) No = Unit {0}
IsAnswer n (Guards i) Yes = Unit {0}
IsAnswer n (Guards i) No = Unit {0}
IsAnswer n stage answer = ⊥

-- what is asked for is of this kind
abbrev pub Awaits : Stage → Ask → Type 0
Awaits (Evaluates i) (Evaluate j) = i ≡ j
Awaits (Escapes i) (Escape t) = Unit {0}
Awaits (Compares i) (Same a b) = Unit {0}
Awaits (Guards i) (Same a b) = Unit {0}
Awaits Ends (Take at cs) = Unit {0}
Awaits Ends Nothing = Unit {0}
Awaits stage ask = ⊥

-- the terms of what is asked for, or taken, are of a pool of so many nodes
abbrev pub IsAsk : ℕ → Ask → Type 0
IsAsk n (Evaluate i) = Unit {0}
IsAsk n (Escape t) = t.0 < n
IsAsk n (Same a b) = (a.0 < n) × (b.0 < n)
IsAsk n (Take at cs) = AreCaptures n cs.items
IsAsk n Nothing = Unit {0}

-- the rules are these, and the rows left are theirs
pub record Stands (rules : List PlainRule) (m : Matcher) : Type 0 where
  pub source : IsSource rules m.source
  pub left : IsLeftOf rules m.source m.left

-- the term that stands in a column
abbrev pub term_in : List PoolNode → Matcher → ℕ → Tree
term_in ns m i = (column_at (plain ns m.columns.items) i).term

module _ (S : PlainSignature) (rules : List PlainRule) (ns : List PoolNode) (m : Matcher) where
  -- the selection of the rows that were not tried
  abbrev pub selects : ℕ → Units (Option Selected)
  selects n = selection_of S n (plain ns m.columns.items) (drop m.tried (rows_left rules m.left))

  -- the selection once the row that is tried has failed
  abbrev pub fails : ℕ → Units (Option Selected)
  fails n = selection_of S n (plain ns m.columns.items) (drop (m.tried + 1) (rows_left rules m.left))

  -- the selection while the row that is tried captures, from the cell at `i` on
  abbrev pub captures_due : ℕ → ℕ → Units (Option Selected)
  captures_due i n = capturing S (row rules m.row) (drop (m.tried + 1) (rows_left rules m.left)) (plain ns m.columns.items) i (captured_terms ns m.captures.items) n

  -- the same while its guards are compared
  abbrev pub guards_due : ℕ → ℕ → Units (Option Selected)
  guards_due i n = guarding S (row rules m.row) (drop (m.tried + 1) (rows_left rules m.left)) (plain ns m.columns.items) i (captured_terms ns m.captures.items) n

  -- what is left once a column has its value
  abbrev pub after_value : ℕ → Tree → ℕ → Units (Option Selected)
  after_value i v n = with_value S (plain ns m.columns.items) (drop m.tried (rows_left rules m.left)) i (column_at (plain ns m.columns.items) i).depth v n

  -- once a part has its normal form
  abbrev pub after_normal : ℕ → Tree → ℕ → Units (Option Selected)
  after_normal i u n =
      bind (bind (cell_normal (normal_of S) (comparison_of S) (cell_at (row rules m.row).cells i) (column_at (plain ns m.columns.items) i) (captured_terms ns m.captures.items) u n)
      (after_cell (normal_of S) (comparison_of S) (row rules m.row).cells (plain ns m.columns.items) i))
      (finished S (row rules m.row) (drop (m.tried + 1) (rows_left rules m.left)))

  -- once a part was compared with what its variable captured before
  abbrev pub after_compared : ℕ → Bool → ℕ → Units (Option Selected)
  after_compared i alike n =
      bind (bind (cell_compared (column_at (plain ns m.columns.items) i) (captured_terms ns m.captures.items) alike n)
      (after_cell (normal_of S) (comparison_of S) (row rules m.row).cells (plain ns m.columns.items) i))
      (finished S (row rules m.row) (drop (m.tried + 1) (rows_left rules m.left)))

  -- once a part was compared with the guard
  abbrev pub after_guard : ℕ → Bool → ℕ → Units (Option Selected)
  after_guard i alike n =
      bind (guard_compared (comparison_of S) (row rules m.row).cells (plain ns m.columns.items) (i + 1) (captured_terms ns m.captures.items) alike n)
      (decided S (row rules m.row) (drop (m.tried + 1) (rows_left rules m.left)) (plain ns m.columns.items) (captured_terms ns m.captures.items))

  -- the selection `due` asks for this first, and goes on with the answer; or it comes to this
  abbrev pub AsksFor : Stage → Ask → (ℕ → Units (Option Selected)) → Type 0
  AsksFor (Evaluates i) (Evaluate j) due = (n : ℕ) → due n ≡ bind (whnf_of S n (term_in ns m i)) (after_value i)
  AsksFor (Escapes i) (Escape t) due = (n : ℕ) → due n ≡ bind (normal_of S n (term ns t)) (after_normal i)
  AsksFor (Compares i) (Same a b) due = (n : ℕ) → due n ≡ bind (comparison_of S n (term ns a) (term ns b)) (after_compared i)
  AsksFor (Guards i) (Same a b) due = (n : ℕ) → due n ≡ bind (comparison_of S n (term ns a) (term ns b)) (after_guard i)
  AsksFor Ends (Take at cs) due = (at < length rules) × ((n : ℕ) → due n ≡ Some (Some (record { captures = captured_terms ns cs.items; rule = rule_at rules at }), n))
  AsksFor Ends Nothing due = (n : ℕ) → due n ≡ Some (None, n)
  AsksFor stage ask due = ⊥

  -- the selection that is left once the answer is there
  abbrev pub answered : Stage → Answer → ℕ → Units (Option Selected)
  answered Begins Begin n = selects n
  answered (Evaluates i) (Value v) n = after_value i (term ns v) n
  answered (Escapes i) (Normal u) n = after_normal i (term ns u) n
  answered (Compares i) Yes n = after_compared i true n
  answered (Compares i) No n = after_compared i false n
  answered (Guards i) Yes n = after_guard i true n
  answered (Guards i) No n = after_guard i false n
  answered stage answer n = None

-- what a call comes to: the selection `due` goes on with what it asks for
pub record Asks (rules : List PlainRule) (ns : List PoolNode) (m : Matcher) (ask : Ask) (due : PlainSignature → ℕ → Units (Option Selected)) : Type 0 where
  pub stands : Stands rules m
  pub asks : (S : PlainSignature) → AsksFor S rules ns m m.stage ask (due S)

-- a matcher at its start: the rows of the rules before the arguments of a stack
pub record IsBegun (rules : List PlainRule) (args : List TermId) (m : Matcher) : Type 0 where
  pub stands : Stands rules m
  pub columns : m.columns.items ≡ map (argument_column 0) (take (width (length args) rules) (from_top args))
  pub rows : rows_left rules m.left ≡ rows_for (length args) (width (length args) rules) rules
  pub tried : m.tried ≡ 0
  pub stage : m.stage ≡ Begins
