-- Trusted: scoped commands as plain data.
use Rattle.std.specs.Prelude.{ℕ, Bool, Option, List}
use Rattle.dk_model.specs.PlainTerms.{Tree}
use Rattle.dk_model.specs.declared.signature.SymSort.{SymSort}

pub data PlainLeft : Type 0 where
  left_symbol : ℕ → PlainLeft
  left_rule_variable : ℕ → PlainLeft
  left_variable : ℕ → PlainLeft
  left_wildcard : PlainLeft
  left_guard : Tree → PlainLeft
  left_abstraction : PlainLeft → PlainLeft
  left_apply : PlainLeft → PlainLeft → PlainLeft

pub record PlainScopedRule : Type 0 where
  pub vars : ℕ
  pub notes : List (Option Tree)
  pub left : PlainLeft
  pub right : Tree

-- what a query asks: whether a term has a type; whether two terms are the same; the type of a term; its normal form
pub data PlainAsked : Type 0 where
  typed : Tree → Tree → PlainAsked
  alike : Tree → Tree → PlainAsked
  type_of : Tree → PlainAsked
  value_of : Tree → PlainAsked

-- what a query finds
pub data PlainFound : Type 0 where
  yes : PlainFound
  no : PlainFound
  of_type : Tree → PlainFound
  value : Tree → PlainFound

-- a query demands (`#ASSERT`) or only asks
pub data PlainCommand : Type 0 where
  declare : SymSort → Option Tree → Option Tree → PlainCommand
  rule_command : List PlainScopedRule → PlainCommand
  query : Bool → PlainAsked → PlainCommand
