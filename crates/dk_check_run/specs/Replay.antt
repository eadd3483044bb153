-- Trusted: the rows of `replay` (docs/sessions.md).
use Rattle.std.specs.Prelude.{◌≡◌, ◌≤◌, ◌+◌, ℕ, List, [], ◌∷◌, ◌++◌, length, Option, None, Some, codes, decimal}
use Rattle.dk_io.specs.Bytes.{Books, added, book_of}
use Rattle.dk_io.specs.Causes.{Rose}
use Rattle.dk_lexer.specs.Tokens.{input_limit}
use Rattle.dk_model.specs.declared.limits.Limits.{Limits}
use Rattle.command_line.specs.Requests.{ReplayRequest, Request, to_replay}
use Rattle.verdict_book.specs.Report.{concat}
use Rattle.book_reader.specs.Shelves.{ShelfState}
use Rattle.script_lines.specs.Scripts.{Line, ended_lines}
use Rattle.replay_script.specs.Replays.{IsTextOf, script_lines}
use Rattle.dk_check_run.specs.Run.{LeavesBooks, memory_at_once}
use Rattle.dk_check_run.specs.Run as line
use Rattle.dk_check_run.specs.Rows.{Cause, books, unread, unopened, memory}

-- a read failed while the line of that number was due
abbrev pub unread_line : ℕ → List ℕ
unread_line number = concat (codes "unread " ∷ decimal number ∷ codes "\n" ∷ [])

-- memory ended there
abbrev pub memory_line : ℕ → List ℕ
memory_line number = concat (codes "memory " ∷ decimal number ∷ codes " line " ∷ decimal number ∷ codes "\n" ∷ [])

-- where the shelf tells its books, this is so of the bytes of the script
abbrev pub IsOfScript : ReplayRequest → Option Books → (List ℕ → Type 0) → Type 0
IsOfScript q None P = Unit {0}
IsOfScript q (Some held) P = (bytes : List ℕ) × (book_of held q.script ≡ Some bytes) × P bytes

-- so much was given of them, and this is left
abbrev pub IsGiven : List ℕ → Option (List ℕ) → List ℕ → Type 0
IsGiven given left bytes = (rest : List ℕ) × (left ≡ Some rest) × (bytes ≡ given ++ rest)

pub data IsDue (limits : Limits) (q : ReplayRequest) (old new : ShelfState) : Cause → ℕ → List ℕ → Type 0 where
  -- the script was read to its end, or to the byte past the limit
  of_the_script : (text : List ℕ) → IsOfScript q old.books (λ bytes. IsTextOf limits q.budget (script_lines limits bytes) text)
      → IsDue limits q old new books 0 text
  -- a read failed, behind so much of it
  of_a_failed_read : (given text : List ℕ) → length given ≤ input_limit limits → IsTextOf limits q.budget (ended_lines given) text
      → IsOfScript q old.books (IsGiven given new.left)
      → IsDue limits q old new unread 3 (text ++ unread_line (length (ended_lines given) + 1))
  of_a_failed_opening : LeavesBooks old new → IsDue limits q old new (unopened q.script) 3 (line.unopened q.script)
  -- memory ended behind some of its lines
  of_memory : (lines : List Line) → (text : List ℕ) → IsTextOf limits q.budget lines text
      → IsOfScript q old.books (λ bytes. (more : List Line) × (script_lines limits bytes ≡ lines ++ more))
      → IsDue limits q old new memory 4 (text ++ memory_line (length lines + 1))
  of_no_memory : IsDue limits q old new memory 4 memory_at_once

-- ---- what a reader looks for

-- the words ask to take a script, and the shelf tells its books
pub record AsksToReplay (request : Option Request) (told_books : Option Books) (q : ReplayRequest) (held : Books) : Type 0 where
  pub asked : request ≡ Some (to_replay q)
  pub told_are : told_books ≡ Some held

-- the status is 0, and the sink took what all lines of the script write, one after the other
pub record ReplaysScript (limits : Limits) (q : ReplayRequest) (held : Books) (before after : Option (List ℕ)) (result : ℕ) : Type 0 where
  pub status : result ≡ 0
  pub bytes : List ℕ
  pub bytes_are : book_of held q.script ≡ Some bytes
  pub text : List ℕ
  pub writes : IsTextOf limits q.budget (script_lines limits bytes) text
  pub taken : after ≡ added before text

-- the opening of the script failed, or a read, and the text that was written says which
pub data HasScriptFault (limits : Limits) (q : ReplayRequest) (old new : ShelfState) (before after : Option (List ℕ)) : Type 0 where
  by_opening : LeavesBooks old new → Rose (old.missed q.script) (new.missed q.script) → after ≡ added before (line.unopened q.script) → HasScriptFault limits q old new before after
  by_read : (given text : List ℕ) → Rose old.faults new.faults → IsTextOf limits q.budget (ended_lines given) text
      → after ≡ added before (text ++ unread_line (length (ended_lines given) + 1)) → HasScriptFault limits q old new before after
