-- For proofs: a command that is scoped and has its shapes, and its entry.
use Rattle.std.specs.Prelude.{ℕ, ◌≡◌, ◌⊎◌, true, false, Option, Some, None}
use Rattle.dk_model.specs.Answering.{is_untyped}
use Rattle.dk_model.specs.PlainCommands.{PlainCommand}
use Rattle.dk_model.specs.PlainEntries.{PlainSignature}
use Rattle.dk_model.specs.Scoping.{plain_command}
use Rattle.dk_model.specs.Verdicts.{entry_of, verdict_of}
use Rattle.dk_model.specs.declared.code.Fault.{Fault}
use Rattle.dk_model.specs.declared.code.Fault.TheVariants.{NoMemory, Refused}
use Rattle.dk_model.specs.declared.code.Verdict.{Verdict}
use Rattle.dk_model.specs.declared.code.Verdict.TheVariants as verdict
use Rattle.dk_model.specs.declared.signature.Entry.{Entry}
use Rattle.dk_parser.specs.Written.{WrittenForm}
use Rattle.scope_terms.specs.Reading.{Reading, current}
use Rattle.scope_terms.specs.Scopes.{refused, scope_of, scoped}
use Rattle.shared_term.specs.declared.stored.Stored.{Stored}
use Rattle.signature_log.specs.Versions.{stored_entry}
use Rattle.edit_session.specs.Sessions.{is_shaped}
use Rattle.edit_session.specs.declared.shaping.Shaped.{Shaped}

-- an entry like this is only made of rules that have their shapes
abbrev pub ShapesAll : PlainCommand → Entry Stored → Type 0
ShapesAll c e = (S : PlainSignature) → stored_entry e ≡ entry_of S c None → is_shaped S c ≡ true

-- the entry of the command, or that it waits for a type
abbrev pub IsEntryFor : PlainSignature → PlainCommand → Option (Entry Stored) → Type 0
IsEntryFor S c (Some e) = (is_untyped c ≡ false) × (stored_entry e ≡ entry_of S c None) × (is_shaped S c ≡ true)
IsEntryFor S c None = is_untyped c ≡ true

-- some rule has no shape, which is the command's verdict
pub record RefusesShape (S : PlainSignature) (c : PlainCommand) (v : Verdict) : Type 0 where
  pub unshaped : is_shaped S c ≡ false
  pub verdict_is : (budget : ℕ) → verdict_of S c budget ≡ v

abbrev pub IsUnshaped : PlainSignature → PlainCommand → Fault → Type 0
IsUnshaped S c (Refused code) = RefusesShape S c (verdict.Refused code)
IsUnshaped S c NoMemory = Unit {0}

-- the command is scoped so, and has its shapes
pub record IsShapedAs (r : Reading) (S : PlainSignature) (form : WrittenForm) (s : Shaped) : Type 0 where
  pub scopes : scope_of r.symbols (current r) form ≡ scoped (plain_command s.command)
  pub entry : IsEntryFor S (plain_command s.command) s.entry

-- it isn't scoped, or has no shape, with this code; or memory ended
abbrev pub IsNotShaped : Reading → PlainSignature → WrittenForm → Fault → Type 0
IsNotShaped r S form (Refused code) =
    (scope_of r.symbols (current r) form ≡ refused code)
    ⊎ ((c : PlainCommand) × (scope_of r.symbols (current r) form ≡ scoped c) × RefusesShape S c (verdict.Refused code))
IsNotShaped r S form NoMemory = Unit {0}
