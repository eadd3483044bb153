-- Trusted: the lines at which a book's commands and directives stand, or would begin (docs/report.md).
use Rattle.std.specs.Prelude.{◌≡◌, ◌≤◌, ℕ, List, [], ◌++◌, length, drop}
use Rattle.dk_model.specs.declared.limits.Limits.{Limits}
use Rattle.dk_lexer.specs.Tokens.{Ending, broken, tokens, whole}
pub use Rattle.dk_parser.specs.FileReading.{next_line}
use Rattle.dk_parser.specs.Reading.{TokenReading}
use Rattle.dk_parser.specs.Steps.{read_tokens}

-- how the commands of these bytes are read
abbrev pub reading_at : Limits → List ℕ → Ending → TokenReading
reading_at limits given ending = read_tokens limits (tokens limits given ending).tokens

-- the line at which the command behind so many stands, or begins, or would begin (that of an open comment, or of the next byte), seen
-- from a front of the file's bytes; the front may be the whole file with its own ending
pub record IsNextLine (limits : Limits) (bytes : List ℕ) (file_ending : Ending) (count line : ℕ) : Type 0 where
  pub given : List ℕ
  pub rest : List ℕ
  pub bytes_are : bytes ≡ given ++ rest
  pub ending : Ending
  pub last : ending ≡ whole → (rest ≡ []) × (file_ending ≡ whole)
  pub read_are : count ≤ length (reading_at limits given ending).commands
  pub line_is : line ≡ next_line (drop count (reading_at limits given ending).commands) (reading_at limits given ending).begun (tokens limits given broken).line
