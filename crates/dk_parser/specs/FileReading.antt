-- Trusted: what the bytes of a file are read as (docs/report.md). That `read_tokens` gives what `Reads` says is a law (src/laws.rt).
use Rattle.std.specs.Prelude.{ℕ, List, [], ◌∷◌, Option, Some, None, unwrap_or}
use Rattle.dk_model.specs.declared.code.Code.{Code}
use Rattle.dk_model.specs.declared.code.Code.TheVariants.{E03}
use Rattle.dk_model.specs.declared.limits.Limits.{Limits}
use Rattle.dk_lexer.specs.Tokens as lexer
use Rattle.dk_parser.specs.Written.{WrittenCommand}
use Rattle.dk_parser.specs.Reading.{TokenReading}
use Rattle.dk_parser.specs.Steps.{read_tokens}

-- how the reading of a file ends: after whole commands, at a fault with its line, or where a read failed
pub data Tail : Type 0 where
  whole : Tail
  fault : ℕ → Code → Tail
  unread : Tail

-- the commands and directives of a file, each with the line of its first token, and the tail
pub record Reading : Type 0 where
  pub commands : List WrittenCommand
  pub tail : Tail

-- no fault: the bytes ended, in or behind a command, or a read failed
abbrev pub tail_by_ending : lexer.Ending → Option ℕ → Tail
tail_by_ending lexer.broken begun = unread
tail_by_ending lexer.whole (Some line) = fault line E03
tail_by_ending lexer.whole None = whole

-- a fault of the bytes has the line of the command's first token where one has begun, else its own
abbrev pub tail_by_bytes : Option Code → ℕ → lexer.Ending → Option ℕ → Tail
tail_by_bytes (Some code) line ending begun = fault (unwrap_or begun line) code
tail_by_bytes None line ending begun = tail_by_ending ending begun

-- a token's fault comes before a fault of the bytes behind it
abbrev pub tail_by_tokens : Option (ℕ × Code) → lexer.Lexed → lexer.Ending → Option ℕ → Tail
tail_by_tokens (Some (line, code)) lexed ending begun = fault line code
tail_by_tokens None lexed ending begun = tail_by_bytes lexed.fault lexed.line ending begun

abbrev pub reading_of : TokenReading → lexer.Lexed → lexer.Ending → Reading
reading_of r lexed ending = record { commands = r.commands; tail = tail_by_tokens r.fault lexed ending r.begun }

-- what the bytes of a file are read as
abbrev pub read : Limits → List ℕ → lexer.Ending → Reading
read limits bytes ending = reading_of (read_tokens limits (lexer.tokens limits bytes ending).tokens) (lexer.tokens limits bytes ending) ending

-- the line of the next command or directive: its own where it is whole; else that of its first token where one was read; else this one
abbrev pub next_line : List WrittenCommand → Option ℕ → ℕ → ℕ
next_line (c ∷ cs) begun place = c.line
next_line [] begun place = unwrap_or begun place
