-- For callers: how far the reading of a book has come, and how it ends.
use Rattle.std.specs.Prelude.{◌≡◌, ◌≤◌, length, ℕ, List, [], ◌∷◌, ◌++◌, Option, Some, Result, Ok, Err}
use Rattle.dk_model.specs.declared.limits.Limits.{Limits}
use Rattle.dk_lexer.specs.Tokens.{Ending, broken, whole}
use Rattle.one_lexer.specs.Lexers.{ending_of}
use Rattle.dk_parser.specs.FileReading.{Reading, read}
use Rattle.dk_parser.specs.FileReading as tail
use Rattle.dk_parser.specs.RawViews.{written_command}
use Rattle.dk_parser.specs.Written.{WrittenCommand}
use Rattle.file_reader.specs.declared.reader.Next.{Next}
use Rattle.file_reader.specs.Nexts.{IsWhich, raw_of}
use Rattle.file_reader.specs.declared.reader.ReadEnd.{ReadEnd}
use Rattle.file_reader.specs.declared.reader.ReadEnd.TheVariants as end
use Rattle.file_reader.specs.declared.reader.Reader.{Reader}
use Rattle.file_reader.specs.Held.{Holds, MemoryIn}

-- how the bytes given end: with the book, once its end was met
abbrev pub ending_at : Reader → Ending
ending_at r = ending_of r.over

-- some bytes of a book were given to the reader, and it goes on behind them
pub record HasBegun (r : Reader) : Type 0 where
  pub limits : Limits
  pub given : List ℕ
  pub done : List WrittenCommand
  pub holds : Holds limits given done r
  pub counted : r.given ≤ length given

-- The reader of the book with these bytes has given these commands, its first ones, and this is left of it on the shelf.
pub record IsBehind (limits : Limits) (bytes : List ℕ) (done : List WrittenCommand) (left : Option (List ℕ)) (r : Reader) : Type 0 where
  pub given : List ℕ
  pub rest : List ℕ
  pub bytes_are : bytes ≡ given ++ rest
  pub left_is : left ≡ Some rest
  pub last : ending_at r ≡ whole → rest ≡ []
  pub holds : Holds limits given done r

abbrev pub reading : List WrittenCommand → tail.Tail → Reading
reading commands tail = record { commands = commands; tail = tail }

-- the book with these bytes begins with these commands
abbrev pub BeginsWith : Limits → List ℕ → List WrittenCommand → Type 0
BeginsWith limits bytes done = (later : List WrittenCommand) × ((read limits bytes whole).commands ≡ done ++ later)

-- a read failed behind these commands of the bytes given before
abbrev pub IsUnread : Limits → List ℕ → List WrittenCommand → Option (List ℕ) → Type 0
IsUnread limits bytes done left =
    (given : List ℕ) × (rest : List ℕ) × (bytes ≡ given ++ rest) × (left ≡ Some rest) × (read limits given broken ≡ reading done tail.unread)

-- The answer behind these commands and directives of the book with these bytes: the next one, or how the book is read.
abbrev pub Answers : Limits → List ℕ → List WrittenCommand → Option (List ℕ) → Reader → Result Next ReadEnd → Type 0
Answers limits bytes done left r (Ok next) = IsBehind limits bytes (done ++ written_command (raw_of next) ∷ []) left r × IsWhich next
Answers limits bytes done left r (Err end.Whole) = read limits bytes whole ≡ reading done tail.whole
Answers limits bytes done left r (Err (end.Refused line code)) = read limits bytes whole ≡ reading done (tail.fault line code)
Answers limits bytes done left r (Err (end.NoMemory line)) = MemoryIn limits bytes whole done line
Answers limits bytes done left r (Err end.Unread) = IsUnread limits bytes done left
