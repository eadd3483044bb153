-- Trusted: what the bytes of one book are read as (docs/modules.md).
use Rattle.std.specs.Prelude.{ℕ, List, [], Option, Some, None}
use Rattle.dk_model.specs.declared.limits.Limits.{Limits}
use Rattle.dk_lexer.specs.Tokens.{Ending, broken, tokens}
use Rattle.dk_lexer.specs.Tokens as lexer
use Rattle.dk_parser.specs.FileReading.{Tail, read}
use Rattle.dk_parser.specs.FileReading as tail
use Rattle.theory_walk.specs.Libraries.{BookReading, BookTail, Opened, fault, opened, unopened, unread, whole}
use Rattle.theory_walk.specs.Lines.{next_line, reading_at}

-- the line of the command or directive that is due behind these bytes: of its first token where one was read, else where it would begin
abbrev pub due_line : Limits → List ℕ → ℕ
due_line limits given = next_line [] (reading_at limits given broken).begun (tokens limits given broken).line

-- a failed read stands at the line of the command that is due there
abbrev pub book_tail : ℕ → Tail → BookTail
book_tail due tail.whole = whole
book_tail due (tail.fault line code) = fault line code
book_tail due tail.unread = unread due

-- what the bytes given of a book are read as, under this ending
abbrev pub book_reading : Limits → List ℕ → Ending → BookReading
book_reading limits bytes ending =
    record { items = (read limits bytes ending).commands; tail = book_tail (due_line limits bytes) (read limits bytes ending).tail }

-- a book that is read to its end, where there is one
abbrev pub read_whole : Limits → Option (List ℕ) → Opened
read_whole limits None = unopened
read_whole limits (Some bytes) = opened (book_reading limits bytes lexer.whole)
