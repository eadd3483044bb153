-- Trusted: reading: the commands and directives that a list of tokens, or of bytes, is read as, up to its first fault.
use Rattle.std.specs.Prelude.{◌≡◌, ◌<◌, ℕ, List, [], ◌∷◌, ◌++◌, Option, Some, None}
use Rattle.dk_model.specs.declared.code.Code.{Code}
use Rattle.dk_model.specs.declared.code.Code.TheVariants.{E02, E04, E06}
use Rattle.dk_model.specs.declared.limits.Limits.{Limits}
use Rattle.dk_lexer.specs.declared.token.Token.{Token}
use Rattle.dk_terms.specs.declared.terminal.Terminal.{Terminal}
use Rattle.dk_terms.specs.declared.terminal.Terminal.TheVariants as terminal
use Rattle.dk_terms.specs.Terminals.{terminal_of}
use Rattle.dk_parser.specs.Written.{WrittenCommand}
use Rattle.dk_parser.specs.Grammar.{terminals, first_line, Spells, Begins, IsBegun}
use Rattle.dk_parser.specs.Levels.{level_or_argument, IsWithin}

-- a terminal is at fault behind a front of a command: a word outside the profile, else one with which no command and no directive begins, else one that makes a level or an argument above the limit
abbrev pub IsFault : Limits → List Terminal → Terminal → Code → Type 0
IsFault limits front x E06 = x ≡ terminal.Profile
IsFault limits front x E02 = ¬ (x ≡ terminal.Profile) × ¬ Begins (front ++ x ∷ [])
IsFault limits front x E04 = Begins (front ++ x ∷ []) × (limits.levels < level_or_argument front x)
IsFault limits front x code = ⊥

-- these tokens begin a command or a directive that isn't ended, and none of them is at fault
pub record IsFront (limits : Limits) (ts : List Token) : Type 0 where
  pub begun : IsBegun (terminals ts)
  pub within : IsWithin limits.levels (terminals ts)

-- the commands and directives of a list of tokens, the line of the first token of one that has begun and not ended, and the first fault with the line of its command
pub record TokenReading : Type 0 where
  pub commands : List WrittenCommand
  pub begun : Option ℕ
  pub fault : Option (ℕ × Code)

abbrev pub with_command : WrittenCommand → TokenReading → TokenReading
with_command c r = record r { commands = c ∷ r.commands }

-- the tokens are read so: commands and directives one after the other, then nothing, or a front of one, or a front with a token at fault and anything behind it
pub data Reads : Limits → List Token → TokenReading → Type 0 where
  reads_nothing : {limits : Limits} → Reads limits [] (record { commands = []; begun = None; fault = None })
  reads_front : {limits : Limits} {t : Token} {ts : List Token} → IsFront limits (t ∷ ts) → Reads limits (t ∷ ts) (record { commands = []; begun = Some t.line; fault = None })
  reads_fault : {limits : Limits} {front : List Token} {code : Code} (t : Token) (rest : List Token) → IsFront limits front → IsFault limits (terminals front) (terminal_of t) code → Reads limits (front ++ t ∷ rest) (record { commands = []; begun = Some (first_line (front ++ t ∷ [])); fault = Some (first_line (front ++ t ∷ []), code) })
  reads_command : {limits : Limits} {ts us : List Token} {c : WrittenCommand} {r : TokenReading} → Spells ts c → IsWithin limits.levels (terminals ts) → Reads limits us r → Reads limits (ts ++ us) (with_command c r)
