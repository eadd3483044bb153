-- For proofs: what the parser's steps read, and what a token adds to it. That it is what `Reads` says is a law (src/laws.rt).
use Rattle.std.specs.Prelude.{◌≡◌, ℕ, Bool, true, false, List, [], ◌∷◌, ◌++◌, Option, Some, None, Result, Ok, Err, IsSome}
use Rattle.dk_model.specs.declared.code.Code.{Code}
use Rattle.dk_model.specs.declared.code.Code.TheVariants.{E03}
use Rattle.dk_model.specs.declared.code.Fault.{Fault}
use Rattle.dk_model.specs.declared.code.Fault.TheVariants as answer_fault
use Rattle.dk_model.specs.declared.limits.Limits.{Limits}
use Rattle.dk_lexer.specs.declared.token.Token.{Token}
use Rattle.dk_parser.specs.declared.parser.Step.{Step}
use Rattle.dk_parser.specs.declared.parser.Step.TheVariants as step
use Rattle.dk_parser.specs.Modules.{is_directive}
use Rattle.dk_parser.specs.Written.{WrittenCommand}
use Rattle.dk_parser.specs.RawViews.{written_command}
use Rattle.dk_parser.specs.Parsing.{Parsing, started, begun_line, parsing_after, commands_from}
use Rattle.dk_parser.specs.Reading.{TokenReading}

-- the commands so far, and the parser behind them
abbrev pub reading_at : List WrittenCommand → Parsing → TokenReading
reading_at cs s = record { commands = cs; begun = begun_line s; fault = s.fault }

-- what a list of tokens is read as
abbrev pub read_tokens : Limits → List Token → TokenReading
read_tokens limits ts = reading_at (commands_from (started limits) ts) (parsing_after limits ts)

-- one reading begins with another: its commands do, and a fault stays
pub record Extends (old new : TokenReading) : Type 0 where
  pub later : List WrittenCommand
  pub commands : new.commands ≡ old.commands ++ later
  pub stays : IsSome old.fault → new ≡ old

-- what the end of the tokens answers
abbrev pub finished_by : Option (ℕ × Code) → Option ℕ → Result Unit Code
finished_by (Some fault) begun = Err fault.1
finished_by None (Some line) = Err E03
finished_by None None = Ok tt

abbrev pub finished : TokenReading → Result Unit Code
finished r = finished_by r.fault r.begun

-- one more token, and nothing comes of it yet
pub record GoesOn (old new : TokenReading) : Type 0 where
  pub commands : new.commands ≡ old.commands
  pub begun : IsSome new.begun
  pub before : old.fault ≡ None
  pub after : new.fault ≡ None

-- one more token, and it ends a command, or a directive
pub record AddsCommand (old new : TokenReading) (c : WrittenCommand) (directive : Bool) : Type 0 where
  pub commands : new.commands ≡ old.commands ++ c ∷ []
  pub which : is_directive c.form ≡ directive
  pub begun : new.begun ≡ None
  pub before : old.fault ≡ None
  pub after : new.fault ≡ None

-- one more token, and it is at fault, or one before it was
pub record AddsFault (old new : TokenReading) (code : Code) : Type 0 where
  pub commands : new.commands ≡ old.commands
  pub line : ℕ
  pub begun : new.begun ≡ Some line
  pub after : new.fault ≡ Some (line, code)
  pub before : IsSome old.fault → new ≡ old

-- what an answer says of the reading before the token and with it; want of memory says nothing
abbrev pub AddsStep : TokenReading → Result Step Fault → TokenReading → Type 0
AddsStep old (Ok step.More) new = GoesOn old new
AddsStep old (Ok (step.Command raw)) new = AddsCommand old new (written_command raw.value) false
AddsStep old (Ok (step.Directive raw)) new = AddsCommand old new (written_command raw.value) true
AddsStep old (Err (answer_fault.Refused code)) new = AddsFault old new code
AddsStep old (Err answer_fault.NoMemory) new = Unit {0}

-- a fact of every answer but want of memory
abbrev pub Answers : Result Step Fault → Type 0 → Type 0
Answers (Err answer_fault.NoMemory) P = Unit {0}
Answers answer P = P
