-- For callers: the words of a command's check over evaluation with units; what they mean stands in CommandTypingOver.
use Rattle.std.specs.Prelude.{ℕ, Bool, Option, Result, List}
use Rattle.dk_model.specs.PlainTerms.{Tree}
use Rattle.dk_model.specs.PlainEntries.{PlainRule, PlainSignature}
use Rattle.dk_model.specs.PlainCommands.{PlainAsked, PlainFound, PlainCommand}
use Rattle.dk_model.specs.CommandTypingOver as over
use Rattle.dk_model.specs.Typing.{Judged, by_units}
use Rattle.dk_model.specs.declared.code.Code.{Code}
pub use Rattle.dk_model.specs.CommandTypingOver.{or_no, found_by}

module _ (S : PlainSignature) where
  abbrev pub body_checked : Tree → Option Tree → ℕ → Judged (Unit {0})
  body_checked = over.body_checked (by_units S) S

  abbrev pub body_type : Tree → ℕ → Judged Tree
  body_type = over.body_type (by_units S) S

  abbrev pub declaration_checked : Option Tree → Option Tree → ℕ → Judged (Unit {0})
  declaration_checked = over.declaration_checked (by_units S) S

  abbrev pub rules_checked : Result (List PlainRule) Code → ℕ → Judged (Unit {0})
  rules_checked = over.rules_checked (by_units S) S

  abbrev pub compared : Tree → Tree → ℕ → Judged (Unit {0})
  compared = over.compared (by_units S) S

  abbrev pub evaluated : Tree → ℕ → Judged Tree
  evaluated = over.evaluated (by_units S) S

  abbrev pub asked_found : PlainAsked → ℕ → Judged PlainFound
  asked_found = over.asked_found (by_units S) S

  abbrev pub query_found : Bool → PlainAsked → ℕ → Judged PlainFound
  query_found = over.query_found (by_units S) S

  abbrev pub command_checked : PlainCommand → ℕ → Judged (Unit {0})
  command_checked = over.command_checked (by_units S) S
