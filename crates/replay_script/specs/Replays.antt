-- Trusted: what a session comes to along the lines of a script, and what they write (docs/sessions.md).
use Rattle.std.specs.Prelude.{◌≡◌, ◌+◌, ◌-◌, ◌&&◌, ℕ, Bool, List, [], ◌∷◌, ◌++◌, length, take, Option, None, Some, codes, decimal, false, nat_le, slice_set, if◌then◌else◌}
use Rattle.std.specs.List.{insert, remove}
use Rattle.dk_lexer.specs.Tokens.{input_limit}
use Rattle.dk_model.specs.declared.limits.Limits.{Limits}
use Rattle.verdict_book.specs.Report.{concat, report_of}
use Rattle.edit_session.specs.Sessions.{AreReached, PlainSlot, checks, kept_then, new_slot, texts_of}
use Rattle.edit_session.specs.Texts.{is_command_text, report_of_texts}
use Rattle.script_lines.specs.Scripts.{Edit, Line, all_lines, deletes, edits, ended_lines, inserts, replaces, reports, unreadable}

-- the lines of a script, at most to the byte past the limit: the line of that byte is none, and ends it
abbrev pub script_lines : Limits → List ℕ → List Line
script_lines limits bytes =
    if nat_le (length bytes) (input_limit limits) then all_lines bytes else ended_lines (take (input_limit limits) bytes) ++ unreadable ∷ []

-- ---- a session along the lines of a script

-- a number from 1 to so many
abbrev pub is_place : ℕ → ℕ → Bool
is_place k most = nat_le 1 k && nat_le k most

-- the texts after an edit; none, where there is no such place or the text isn't one command
abbrev pub edited : Limits → List PlainSlot → Edit → Option (List PlainSlot)
edited limits slots (inserts k text) = if is_place k (length slots + 1) && is_command_text limits text then Some (insert slots (k - 1) (new_slot text)) else None
edited limits slots (replaces k text) = if is_place k (length slots) && is_command_text limits text then Some (slice_set slots (k - 1) (new_slot text)) else None
edited limits slots (deletes k) = if is_place k (length slots) then Some (remove slots (k - 1)) else None

-- the line of that number is bad
abbrev pub bad_line : ℕ → List ℕ
bad_line number = concat (codes "bad " ∷ decimal number ∷ codes "\n" ∷ [])

-- the report of the texts as they stand
abbrev pub report_text : Limits → ℕ → List (List ℕ) → List ℕ
report_text limits budget texts = report_of (report_of_texts limits budget texts).lines (report_of_texts limits budget texts).outcome budget false []

-- so many commands were checked for it
abbrev pub checked_line : ℕ → List ℕ
checked_line count = concat (codes "checked " ∷ decimal count ∷ codes "\n" ∷ [])

-- the texts after the line of that number, and what it writes
pub data Takes (limits : Limits) (budget number : ℕ) (slots : List PlainSlot) : Line → List PlainSlot → List ℕ → Type 0 where
  of_an_edit : (edit : Edit) → (new : List PlainSlot) → edited limits slots edit ≡ Some new → Takes limits budget number slots (edits edit) new []
  of_a_bad_edit : (edit : Edit) → edited limits slots edit ≡ None → Takes limits budget number slots (edits edit) slots (bad_line number)
  of_a_report : (lists : List (Option (List (List ℕ)))) → AreReached limits budget (texts_of slots) lists
      → Takes limits budget number slots reports (kept_then slots lists) (report_text limits budget (texts_of slots) ++ checked_line (checks slots lists))
  of_no_line : Takes limits budget number slots unreadable slots (bad_line number)

-- the texts after these lines, from a session without texts, and what they write
pub data Replays (limits : Limits) (budget : ℕ) : List Line → List PlainSlot → List ℕ → Type 0 where
  of_none : Replays limits budget [] [] []
  of_one_more : (lines : List Line) → (slots : List PlainSlot) → (text : List ℕ) → (next : Line) → (new : List PlainSlot) → (more : List ℕ)
      → Replays limits budget lines slots text → Takes limits budget (length lines + 1) slots next new more → Replays limits budget (lines ++ next ∷ []) new (text ++ more)

-- this was written along these lines
abbrev pub IsTextOf : Limits → ℕ → List Line → List ℕ → Type 0
IsTextOf limits budget lines text = (slots : List PlainSlot) × Replays limits budget lines slots text
