-- Trusted: how the commands of a theory are read where nothing is typed: each is within the limit of commands and is scoped, and each rule
-- has its shape (docs/certificates.md).
use Rattle.std.specs.Prelude.{ℕ, Bool, true, false, List, [], ◌∷◌, ◌++◌, nat_le, slice_get, if◌then◌else◌, Option, Some, None, Result, Ok, Err}
use Rattle.dk_model.specs.PlainCommands.{PlainCommand, PlainScopedRule, declare, query, rule_command}
use Rattle.dk_model.specs.PlainEntries.{PlainRule}
use Rattle.dk_model.specs.Shapes.{shape_of}
use Rattle.dk_model.specs.declared.code.Code.{Code}
use Rattle.dk_model.specs.declared.code.Code.TheVariants.{E08, E30}
use Rattle.dk_model.specs.declared.code.Verdict.{Verdict}
use Rattle.dk_model.specs.declared.code.Verdict.TheVariants as verdict
use Rattle.dk_model.specs.declared.limits.Limits.{Limits}
use Rattle.dk_model.specs.declared.signature.SymSort.TheVariants.{Definable, Static, Theorem}
use Rattle.dk_parser.specs.Written.{WrittenForm}
use Rattle.scope_terms.specs.Scopes.{Module, Scoping, Symbols, names_after, no_symbols, refused, scope_of, scoped}
use Rattle.theory_walk.specs.Walks.{Placed, module_in}
use Rattle.verdict_book.specs.Report.{ok_name}
use Rattle.file_report.specs.Reports.{Checking, name_of}

-- the commands so far, and the names that they declare
pub record ScopedTheory : Type 0 where
  pub names : Symbols
  pub commands : List PlainCommand

abbrev pub no_commands : ScopedTheory
no_commands = record { names = no_symbols; commands = [] }

-- ---- the first code of a command

abbrev pub is_definition : PlainCommand → Bool
is_definition (declare Definable A b) = true
is_definition (declare Static A b) = false
is_definition (declare Theorem A b) = false
is_definition (rule_command rs) = false
is_definition (query demand a) = false

-- whether the symbol of this number was declared by `def`
abbrev pub takes_rules : List PlainCommand → ℕ → Bool
takes_rules cs k = elim (slice_get cs k) [ None ↦ false | Some c ↦ is_definition c ]

-- the code of a rule of this shape, where it has one
abbrev pub rule_fault : List PlainCommand → Result PlainRule Code → Option Code
rule_fault cs (Err code) = Some code
rule_fault cs (Ok r) = if takes_rules cs r.head then None else Some E30

abbrev pub first_fault : Option Code → Option Code → Option Code
first_fault (Some code) later = Some code
first_fault None later = later

abbrev pub rules_fault : List PlainCommand → List PlainScopedRule → Option Code
rules_fault cs [] = None
rules_fault cs (r ∷ rs) = first_fault (rule_fault cs (shape_of r)) (rules_fault cs rs)

abbrev pub command_fault : List PlainCommand → PlainCommand → Option Code
command_fault cs (rule_command rs) = rules_fault cs rs
command_fault cs (declare s A b) = None
command_fault cs (query demand a) = None

abbrev pub scoped_fault : List PlainCommand → Scoping PlainCommand → Option Code
scoped_fault cs (refused code) = Some code
scoped_fault cs (scoped c) = command_fault cs c

abbrev pub verdict_by : Option Code → Verdict
verdict_by None = verdict.Accepted
verdict_by (Some code) = verdict.Refused code

-- ---- a command of a module, behind so many

abbrev pub fault_in : ScopedTheory → Module → WrittenForm → Option Code
fault_in T m form = scoped_fault T.commands (scope_of T.names m form)

-- where there may be so many commands
abbrev pub verdict_in : ℕ → ScopedTheory → ℕ → Module → WrittenForm → Verdict
verdict_in most T count m form = if nat_le most count then verdict.Refused E08 else verdict_by (fault_in T m form)

abbrev pub with_scoped : List PlainCommand → Scoping PlainCommand → List PlainCommand
with_scoped cs (scoped c) = cs ++ c ∷ []
with_scoped cs (refused code) = cs

abbrev pub theory_in : ScopedTheory → Module → WrittenForm → ScopedTheory
theory_in T m form = record { names = names_after T.names m form; commands = with_scoped T.commands (scope_of T.names m form) }

-- ---- the commands of a theory

-- within these limits, where this is the file's own module
module _ (limits : Limits) (own : Module) where
  abbrev pub reading : Checking ScopedTheory
  reading = record {
    verdict_on = λ T count c. verdict_in limits.commands T count (module_in own c.book) c.command.form;
    shown_on = λ T c. ok_name (name_of c);
    after = λ T c. theory_in T (module_in own c.book) c.command.form;
  }

  abbrev pub theory_behind : ScopedTheory → List Placed → ScopedTheory
  theory_behind T [] = T
  theory_behind T (c ∷ cs) = theory_behind (reading.after T c) cs
