-- Trusted: commands that are accepted one after the other (docs/pruning.md).
use Rattle.std.specs.Prelude.{ℕ, ◌≡◌, List, [], ◌∷◌, ◌++◌}
use Rattle.dk_model.specs.PlainEntries.{PlainSignature}
use Rattle.dk_model.specs.PlainCommands.{PlainCommand}
use Rattle.dk_model.specs.ByUnits.{by_units}
use Rattle.dk_model.specs.CommandTypingOver.{command_checked}
use Rattle.dk_model.specs.TypingOver.{answer}
use Rattle.dk_model.specs.Verdicts.{entry_of, inferred_type}
use Rattle.dk_parser.specs.Written.{WrittenForm}
use Rattle.scope_terms.specs.Scopes.{Module, Symbols, names_after, no_symbols, scope_of, scoped}

-- a command and the module in which it stands
pub record Stated : Type 0 where
  pub place : Module
  pub form : WrittenForm

-- what some commands declare
pub record Declared : Type 0 where
  pub names : Symbols
  pub signature : PlainSignature

abbrev pub nothing_declared : Declared
nothing_declared = record { names = no_symbols; signature = [] }

-- the same with one more, which is scoped as `c`
abbrev pub declared_with : ℕ → Declared → Stated → PlainCommand → Declared
declared_with budget T f c = record { names = names_after T.names f.place f.form; signature = T.signature ++ entry_of T.signature c (inferred_type T.signature c budget) ∷ [] }

-- behind what T declares these are scoped as these commands and accepted, each with so many units left of the budget, and declare
-- U with T
pub data AreAccepted (budget : ℕ) : Declared → List Stated → List PlainCommand → List ℕ → Declared → Type 0 where
  accepts_none : {T : Declared} → AreAccepted budget T [] [] [] T
  accepts_more : {T U : Declared} {f : Stated} {fs : List Stated} {c : PlainCommand} {cs : List PlainCommand} {n : ℕ} {ns : List ℕ}
      → scope_of T.names f.place f.form ≡ scoped c → command_checked (by_units T.signature) T.signature c budget ≡ answer tt n → AreAccepted budget (declared_with budget T f c) fs cs ns U
      → AreAccepted budget T (f ∷ fs) (c ∷ cs) (n ∷ ns) U
