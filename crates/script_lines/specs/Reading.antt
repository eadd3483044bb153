-- For callers: the line that is read, as the definition has it.
use Rattle.std.specs.Prelude.{◌≡◌, ◌≤◌, ◌^◌, ℕ, Option, Some, None, List}
use Rattle.script_lines.specs.declared.line.Edit.{Edit as ReadEdit}
use Rattle.script_lines.specs.declared.line.Edit.TheVariants.{Insert, Replace, Delete}
use Rattle.script_lines.specs.declared.line.Line.{Line as ReadLine}
use Rattle.script_lines.specs.declared.line.Line.TheVariants as read
use Rattle.script_lines.specs.Scripts.{Edit, Line, deletes, edits, inserts, replaces, reports, text_edit, unreadable}

abbrev pub plain_edit : ReadEdit → Edit
plain_edit (Insert k text) = inserts k text.now
plain_edit (Replace k text) = replaces k text.now
plain_edit (Delete k) = deletes k

-- the number of the text that is edited
abbrev pub place_of : Edit → ℕ
place_of (inserts k text) = k
place_of (replaces k text) = k
place_of (deletes k) = k

-- no session has a text of this number
abbrev pub IsFar : ℕ → Type 0
IsFar k = 2 ^ 32 ≤ k

abbrev pub IsFarNumber : Option ℕ → Type 0
IsFarNumber None = Unit {0}
IsFarNumber (Some k) = IsFar k

-- the line is none, or an edit at a number that no session has
abbrev pub AsksNothing : Line → Type 0
AsksNothing (edits edit) = IsFar (place_of edit)
AsksNothing reports = ⊥
AsksNothing unreadable = Unit {0}

abbrev pub IsReadAs : Line → ReadLine → Type 0
IsReadAs line (read.Edit edit) = line ≡ edits (plain_edit edit)
IsReadAs line read.Report = line ≡ reports
IsReadAs line read.Unreadable = AsksNothing line

-- the words have no number and text of an edit
abbrev pub IsNoTextEdit : List ℕ → Type 0
IsNoTextEdit words = AsksNothing (text_edit inserts words) × AsksNothing (text_edit replaces words)
