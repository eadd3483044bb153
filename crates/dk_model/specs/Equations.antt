-- For callers: what a law says: the rules of evaluation as equations without fuel (docs/evaluation.md).
use Rattle.std.specs.Prelude.{ℕ, suc, ◌+◌, ◌*◌, ◌≡◌, Option, Some, None, Bool, true, false, List, if◌then◌else◌}
use Rattle.dk_model.specs.PlainTerms.{Tree}
use Rattle.dk_model.specs.Substitution.{equal}
use Rattle.dk_model.specs.PlainEntries.{PlainSignature}
use Rattle.dk_model.specs.Units.{Units, bind}
use Rattle.dk_model.specs.Spines.{head_symbol, contraction, pairs_of}
use Rattle.dk_model.specs.Matrix.{Column, Row}
use Rattle.dk_model.specs.Selection.{Selected, select_from}
use Rattle.dk_model.specs.Parts.{each_same, each_normal}
use Rattle.dk_model.specs.Evaluation.{whnf_of, comparison_of, normal_of, selection_with, columns, rows, rewritten}

-- the first row that takes the columns, with its captures
abbrev pub selection_of : PlainSignature → ℕ → List Column → List Row → Units (Option Selected)
selection_of S n cols rs = selection_with (2 * n + 1) S n cols rs

-- where the weak head form goes on after a selection: with what the rule makes of the term, or with the term as its answer
abbrev pub after_selection : PlainSignature → Tree → Option Selected → ℕ → Units Tree
after_selection S t None n = Some (t, n)
after_selection S t (Some taken) n = whnf_of S n (rewritten t taken)

-- whether two weak head forms are alike: the same head, and parts that are alike
abbrev pub heads_compared : PlainSignature → Tree → Tree → ℕ → Units Bool
heads_compared S t u n = elim (pairs_of t u) [ None ↦ Some (false, n) | Some pairs ↦ each_same (comparison_of S) pairs n ]

-- without a unit nothing is answered
abbrev pub EndsWithoutUnits : PlainSignature → Type 0
EndsWithoutUnits S = (t u : Tree) → (whnf_of S 0 t ≡ None) × (comparison_of S 0 t u ≡ None) × (normal_of S 0 t ≡ None)

-- a contraction takes a unit
abbrev pub TurnsByContraction : PlainSignature → Type 0
TurnsByContraction S = (n : ℕ) (t t' : Tree) → contraction t ≡ Some t' → whnf_of S (suc n) t ≡ whnf_of S n t'

-- a term that has none, and whose head is no symbol, takes a unit and is its own weak head form
abbrev pub TurnsToItself : PlainSignature → Type 0
TurnsToItself S = (n : ℕ) (t : Tree) → contraction t ≡ None → head_symbol t ≡ None → whnf_of S (suc n) t ≡ Some (t, n)

-- where the head is a symbol its rules are selected from, after the turn's unit
abbrev pub TurnsByRule : PlainSignature → Type 0
TurnsByRule S = (n : ℕ) (t : Tree) (k : ℕ) → contraction t ≡ None → head_symbol t ≡ Some k
    → whnf_of S (suc n) t ≡ bind (selection_of S n (columns S k t) (rows S k t)) (after_selection S t)

-- a selection goes on as a selection, by these very evaluations
abbrev pub SelectsByEvaluation : PlainSignature → Type 0
SelectsByEvaluation S = (n : ℕ) (cols : List Column) (rs : List Row) → selection_of S n cols rs ≡ select_from (normal_of S) (comparison_of S) (whnf_of S) (selection_of S) rs cols n

-- a comparison takes a unit: the same letter by letter, or else the weak head forms are compared
abbrev pub ComparesByHeads : PlainSignature → Type 0
ComparesByHeads S = (n : ℕ) (t u : Tree)
    → comparison_of S (suc n) t u ≡ (if equal t u then Some (true, n) else bind (whnf_of S n t) (λ t' n1. bind (whnf_of S n1 u) (heads_compared S t')))

-- a normal form takes a unit, and is the weak head form with normal parts
abbrev pub NormalisesParts : PlainSignature → Type 0
NormalisesParts S = (n : ℕ) (t : Tree) → normal_of S (suc n) t ≡ bind (whnf_of S n t) (each_normal (normal_of S))
