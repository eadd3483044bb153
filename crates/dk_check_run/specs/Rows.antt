-- Trusted: what any command answers: a row of its table, written, or cut where the sink failed (docs/report.md).
use Rattle.std.specs.Prelude.{◌≡◌, ◌⊎◌, ℕ, List, Option, Some, None}
use Rattle.dk_io.specs.Causes.{Rose}
use Rattle.command_line.specs.Usage.{usage_text}
use Rattle.book_reader.specs.Shelves.{HasHeld, ShelfState}
use Rattle.dk_check_run.specs.Run.{IsDecided, SinkState, Writes, memory_at_once}

-- Why an answer is due: what the books have, all of them given; what was given of them before a call of the shelf failed; that
-- a read failed; that the opening of this name failed; that memory ended.
pub data Cause : Type 0 where
  books : Cause
  given : Cause
  unread : Cause
  unopened : List ℕ → Cause
  memory : Cause

-- an opening of some name failed
abbrev pub HasMissed : ShelfState → ShelfState → Type 0
HasMissed old new = (name : List ℕ) × Rose (old.missed name) (new.missed name)

-- the status that a cause allows, and what the shelf's counts say of it
abbrev pub Shows : Cause → ℕ → ShelfState → ShelfState → Type 0
Shows books status old new = IsDecided status × HasHeld old new
Shows given status old new = ((status ≡ 1) ⊎ (status ≡ 6)) × (Rose old.faults new.faults ⊎ HasMissed old new)
Shows unread status old new = (status ≡ 3) × Rose old.faults new.faults
Shows (unopened name) status old new = (status ≡ 3) × Rose (old.missed name) (new.missed name)
Shows memory status old new = status ≡ 4

-- a row of a command: the shelf before and after, the cause, the status and the text
abbrev pub Row : Type 1
Row = ShelfState → ShelfState → Cause → ℕ → List ℕ → Type 0

-- one of these rows was due, with what its cause shows, and was written or cut
pub record WritesRow (rows : Row) (old new : ShelfState) (before after : SinkState) (result : ℕ) : Type 0 where
  pub cause : Cause
  pub status : ℕ
  pub text : List ℕ
  pub row : rows old new cause status text
  pub shows : Shows cause status old new
  pub writes : Writes before after text status result

-- What was written, or cut: the usage text, where the words ask for nothing; where memory ended before the words were read, that;
-- else a row of the command that they ask for.
pub data Answers {C : Type 0} (rows : C → Row) (request : Option C) (old new : ShelfState) (before after : SinkState) (result : ℕ) : Type 0 where
  of_no_command : request ≡ None → new ≡ old → Writes before after usage_text 2 result → Answers rows request old new before after result
  of_no_words : new ≡ old → Writes before after memory_at_once 4 result → Answers rows request old new before after result
  of_command : (c : C) → request ≡ Some c → WritesRow (rows c) old new before after result → Answers rows request old new before after result
