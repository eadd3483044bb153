-- Trusted: patterns, rules, entries and signatures as plain data.
use Rattle.std.specs.Prelude.{ℕ, Option, List, [], ◌∷◌}
use Rattle.dk_model.specs.PlainTerms.{Tree}
use Rattle.dk_model.specs.declared.signature.SymSort.{SymSort}

mutual
  pub data Pattern : Type 0 where
    rule_variable_pattern : ℕ → List ℕ → Pattern
    wildcard_pattern : Pattern
    guard_pattern : Tree → Pattern
    symbol_pattern : ℕ → Patterns → Pattern
    variable_pattern : ℕ → Patterns → Pattern
    abstraction_pattern : Pattern → Pattern

  pub data Patterns : Type 0 where
    no_patterns : Patterns
    more_patterns : Pattern → Patterns → Patterns

-- the patterns as a list
abbrev pub pattern_list : Patterns → List Pattern
pattern_list no_patterns = []
pattern_list (more_patterns p ps) = p ∷ pattern_list ps

pub record PlainRule : Type 0 where
  pub head : ℕ
  pub vars : ℕ
  pub pats : List Pattern
  pub notes : List (Option Tree)
  pub right : Tree

pub data PlainEntry : Type 0 where
  symbol_entry : SymSort → Tree → Option Tree → PlainEntry
  rules_entry : List PlainRule → PlainEntry

abbrev pub PlainSignature : Type 0
PlainSignature = List PlainEntry
