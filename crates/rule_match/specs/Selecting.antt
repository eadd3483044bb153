-- For callers: a matcher as they see it: what is left of its selection, and what that comes to.
use Rattle.std.specs.Prelude.{ℕ, ◌≡◌, ◌<◌, Option, Some, None, Bool, List, length, map, slice_get, if◌then◌else◌}
use Rattle.dk_model.specs.Trees.{Tree, symbol}
use Rattle.dk_model.specs.Signatures.{PlainRule, PlainSignature}
use Rattle.dk_model.specs.SymbolRules.{rules_of}
use Rattle.dk_model.specs.Units.{Units}
use Rattle.dk_model.specs.Selection.{Selected}
use Rattle.dk_model.specs.Evaluation.{whnf_of, comparison_of, normal_of, columns, rows}
use Rattle.dk_model.specs.Equations.{selection_of}
use Rattle.shared_term.specs.declared.id.TermId.{TermId}
use Rattle.shared_term.specs.Pools.{Node, term, Extends}
use Rattle.shared_term.specs.Changes.{captured_terms}
use Rattle.rule_match.specs.Rows.{rule_at}
use Rattle.rule_match.specs.declared.matcher.Answer.{Answer}
use Rattle.rule_match.specs.declared.matcher.Answer.TheVariants.{Begin, Value, Yes, No, Normal}
use Rattle.rule_match.specs.declared.matcher.Ask.{Ask}
use Rattle.rule_match.specs.declared.matcher.Ask.TheVariants.{Evaluate, Escape, Same, Take, Nothing}
use Rattle.rule_match.specs.declared.matcher.Matcher.{Matcher}
use Rattle.rule_match.specs.declared.value.Column.{Column}
use Rattle.rule_match.specs.Columns.{behind, wound}
pub use Rattle.rule_match.specs.Matching.{IsMatcher, IsAsk, Stands}
use Rattle.rule_match.specs.Matching.{IsAnswer, answered}

-- the terms of its columns, from the left
abbrev pub terms_in : Matcher → List TermId
terms_in m = map (λ (c : Column). c.term) m.columns.items

-- the answer is of the kind that was asked for last, and its term of a pool of so many nodes
abbrev pub Fits : ℕ → Matcher → Answer → Type 0
Fits n m answer = IsAnswer n m.stage answer

-- so is any weak head form
abbrev pub TakesValue : Matcher → Type 0
TakesValue m = (n : ℕ) (v : TermId) → v.0 < n → Fits n m (Value v)

-- so is any answer to this
abbrev pub AwaitsAnswer : Matcher → Ask → Type 0
AwaitsAnswer m (Evaluate i) = (i < length (terms_in m)) × TakesValue m
AwaitsAnswer m (Escape t) = (n : ℕ) (v : TermId) → v.0 < n → Fits n m (Normal v)
AwaitsAnswer m (Same a b) = (n : ℕ) (alike : Bool) → Fits n m (if alike then Yes else No)
AwaitsAnswer m ask = Unit {0}

-- what is left of the selection from these rules once it has the answer
abbrev pub left_with : PlainSignature → List PlainRule → List Node → Matcher → Answer → ℕ → Units (Option Selected)
left_with S rules ns m answer n = answered S rules ns m m.stage answer n

-- the selection `due` goes on with the term that is asked for, wherever a larger pool has it; where there is none, it ends
pub record GoesOnWith (S : PlainSignature) (rules : List PlainRule) (ns : List Node) (m : Matcher) (told : TermId → Answer) (asked : ℕ → Units Tree) (due : ℕ → Units (Option Selected)) : Type 0 where
  pub ends : (n : ℕ) → asked n ≡ None → due n ≡ None
  pub goes : (n k : ℕ) (new : List Node) (v : TermId) → Extends ns new → asked n ≡ Some (term new v, k) → due n ≡ left_with S rules new m (told v) k

-- the same where two terms are asked for to be alike
pub record GoesOnWhether (S : PlainSignature) (rules : List PlainRule) (ns : List Node) (m : Matcher) (asked : ℕ → Units Bool) (due : ℕ → Units (Option Selected)) : Type 0 where
  pub ends : (n : ℕ) → asked n ≡ None → due n ≡ None
  pub goes : (n k : ℕ) (new : List Node) (alike : Bool) → Extends ns new → asked n ≡ Some (alike, k) → due n ≡ left_with S rules new m (if alike then Yes else No) k

-- the selection `due` asks for this first, and goes on with any answer; or it takes this rule, or none
abbrev pub ComesTo : PlainSignature → List PlainRule → List Node → Matcher → Ask → (ℕ → Units (Option Selected)) → Type 0
ComesTo S rules ns m (Evaluate i) due = (t : TermId) → slice_get (terms_in m) i ≡ Some t → GoesOnWith S rules ns m (λ v. Value v) (λ n. whnf_of S n (term ns t)) due
ComesTo S rules ns m (Escape t) due = GoesOnWith S rules ns m (λ v. Normal v) (λ n. normal_of S n (term ns t)) due
ComesTo S rules ns m (Same a b) due = GoesOnWhether S rules ns m (λ n. comparison_of S n (term ns a) (term ns b)) due
ComesTo S rules ns m (Take at cs) due = (at < length rules) × ((n : ℕ) → due n ≡ Some (Some (record { captures = captured_terms ns cs.items; rule = rule_at rules at }), n))
ComesTo S rules ns m Nothing due = (n : ℕ) → due n ≡ Some (None, n)

-- what a call comes to, over any signature
pub record Comes (rules : List PlainRule) (ns : List Node) (m : Matcher) (ask : Ask) (due : PlainSignature → ℕ → Units (Option Selected)) : Type 0 where
  pub stands : Stands rules m
  pub to : (S : PlainSignature) → ComesTo S rules ns m ask (due S)

-- the selection from these rules, at its start: that for their symbol before the arguments of a stack
pub record IsStart (rules : List PlainRule) (args : List TermId) (m : Matcher) : Type 0 where
  pub stands : Stands rules m
  pub fits : (n : ℕ) → Fits n m Begin
  pub begins : (S : PlainSignature) (k : ℕ) (ns : List Node) → rules ≡ rules_of S k → (n : ℕ)
      → left_with S rules ns m Begin n ≡ selection_of S n (columns S k (wound (symbol k) (behind ns args))) (rows S k (wound (symbol k) (behind ns args)))
