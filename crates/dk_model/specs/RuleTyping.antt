-- For callers: the words of rule typing over evaluation with units; what they mean stands in RuleTypingOver.
use Rattle.std.specs.Prelude.{ℕ, Option, List}
use Rattle.dk_model.specs.PlainTerms.{Tree}
use Rattle.dk_model.specs.PlainEntries.{Pattern, Patterns, PlainRule, PlainSignature}
use Rattle.dk_model.specs.Typing.{Judged, by_units}
use Rattle.dk_model.specs.Bindings.{Bindings}
use Rattle.dk_model.specs.RuleTypingOver as over
pub use Rattle.dk_model.specs.RuleTypingOver.{Guard, Found, Walked, Posed, found_type, with_type, with_wildcard, with_guard, with_bindings, type_or_kind, all_types, types_under, outermost_first, occurrence, guard_walked, abstraction_over, nothing_found, patterns_of, allowed}

module _ (S : PlainSignature) where
  abbrev pub confined : ℕ → List ℕ → Tree → ℕ → Judged Tree
  confined = over.confined (by_units S)

  abbrev pub bound_type : List Tree → List ℕ → Tree → ℕ → Judged Tree
  bound_type = over.bound_type (by_units S)

  abbrev pub first_type : List Tree → List ℕ → List ℕ → Tree → ℕ → Judged Tree
  first_type = over.first_type (by_units S)

  abbrev pub later_type : List Tree → List ℕ → Tree → Bindings → ℕ → Judged Posed
  later_type = over.later_type (by_units S)

  abbrev pub first_typed : Bindings → List Tree → List ℕ → Tree → ℕ → Judged Tree
  first_typed = over.first_typed (by_units S)

  abbrev pub first_occurrence : List Tree → ℕ → List ℕ → Tree → Found → ℕ → Judged Walked
  first_occurrence = over.first_occurrence (by_units S)

  abbrev pub later_occurrence : List Tree → ℕ → List ℕ → Tree → Tree → Found → ℕ → Judged Walked
  later_occurrence = over.later_occurrence (by_units S)

  abbrev pub rule_variable_walked : List Tree → ℕ → List ℕ → Option Tree → Tree → Found → ℕ → Judged Walked
  rule_variable_walked = over.rule_variable_walked (by_units S)

  abbrev pub wildcard_walked : List Tree → Tree → Found → ℕ → Judged Walked
  wildcard_walked = over.wildcard_walked (by_units S)

  abbrev pub as_expected : Tree → Walked → ℕ → Judged Walked
  as_expected = over.as_expected (by_units S)

  abbrev pub notes_agree : Bindings → List (Option Tree) → List (Option Tree) → ℕ → Judged (Unit {0})
  notes_agree = over.notes_agree (by_units S)

  abbrev pub walked : List Tree → Pattern → Tree → Found → ℕ → Judged Walked
  walked = over.walked (by_units S) S

  abbrev pub spine_walked : List Tree → Tree → Tree → Patterns → Found → ℕ → Judged Walked
  spine_walked = over.spine_walked (by_units S) S

  abbrev pub guards_fit : Bindings → List Tree → List Guard → ℕ → Judged (Unit {0})
  guards_fit = over.guards_fit (by_units S) S

  abbrev pub sides_fit : List (Option Tree) → Tree → Walked → ℕ → Judged (Unit {0})
  sides_fit = over.sides_fit (by_units S) S

  abbrev pub left_walked : PlainRule → ℕ → Judged Walked
  left_walked = over.left_walked (by_units S) S

  abbrev pub rule_checked : PlainRule → ℕ → Judged (Unit {0})
  rule_checked = over.rule_checked (by_units S) S

  abbrev pub rules_typed : List PlainRule → ℕ → Judged (Unit {0})
  rules_typed = over.rules_typed (by_units S) S
