-- Trusted: the lines of a script, and what each of them asks (docs/sessions.md).
use Rattle.std.specs.Prelude.{ℕ, ◌+◌, ◌==◌, ◌&&◌, not, Bool, false, Option, Some, None, List, [], ◌∷◌, ◌++◌, codes, drop, length, map, take, position, if◌then◌else◌}
use Rattle.std.specs.Str.{all_ascii_digits, bytes_eq}
use Rattle.std.specs.Str.Parse.{digits_value}

-- ---- the lines

-- the lines that a newline ends, and the bytes behind the last of them
pub record Cut : Type 0 where
  pub ended : List (List ℕ)
  pub behind : List ℕ

-- with a byte in front, which belongs to the first line
abbrev pub with_byte : ℕ → List (List ℕ) → List ℕ → Cut
with_byte b [] behind = record { ended = []; behind = b ∷ behind }
with_byte b (line ∷ lines) behind = record { ended = (b ∷ line) ∷ lines; behind = behind }

-- bytes cut at their newlines
abbrev pub cut : List ℕ → Cut
cut [] = record { ended = []; behind = [] }
cut (b ∷ bs) = if b == 10 then record { ended = [] ∷ (cut bs).ended; behind = (cut bs).behind } else with_byte b (cut bs).ended (cut bs).behind

-- bytes behind the last newline are a line too; where there are none, the newline begins no line
abbrev pub unended : List ℕ → List (List ℕ)
unended [] = []
unended (b ∷ bs) = (b ∷ bs) ∷ []

-- ---- one line

pub data Edit : Type 0 where
  inserts : ℕ → List ℕ → Edit
  replaces : ℕ → List ℕ → Edit
  deletes : ℕ → Edit

-- what a line asks: an edit, the report, or nothing that is a line of a script
pub data Line : Type 0 where
  edits : Edit → Line
  reports : Line
  unreadable : Line

-- a zero with digits behind it
abbrev pub leads_with_zero : List ℕ → Bool
leads_with_zero (b ∷ c ∷ bs) = b == 48
leads_with_zero bs = false

-- the number that is written in decimal, without leading zeros
abbrev pub number_of : List ℕ → Option ℕ
number_of [] = None
number_of (b ∷ bs) = if all_ascii_digits (b ∷ bs) && not (leads_with_zero (b ∷ bs)) then Some (digits_value 10 (b ∷ bs)) else None

-- the edit at this number
abbrev pub edit_at : (ℕ → Edit) → Option ℕ → Line
edit_at edit None = unreadable
edit_at edit (Some k) = edits (edit k)

-- the edit at the number before the first blank, of the text behind it
abbrev pub edit_with : (ℕ → List ℕ → Edit) → List ℕ → Option ℕ → Line
edit_with edit words None = unreadable
edit_with edit words (Some at) = edit_at (λ k. edit k (drop (at + 1) words)) (number_of (take at words))

abbrev pub is_blank : ℕ → Bool
is_blank b = b == 32

abbrev pub text_edit : (ℕ → List ℕ → Edit) → List ℕ → Line
text_edit edit words = edit_with edit words (position is_blank words)

-- the line begins with this word
abbrev pub begins_with : List ℕ → List ℕ → Bool
begins_with word line = bytes_eq (take (length word) line) word

-- `insert K TEXT`, `replace K TEXT`, `delete K`, `report`
abbrev pub line_of : List ℕ → Line
line_of line =
    if begins_with (codes "insert ") line then text_edit inserts (drop 7 line)
    else if begins_with (codes "replace ") line then text_edit replaces (drop 8 line)
    else if begins_with (codes "delete ") line then edit_at deletes (number_of (drop 7 line))
    else if bytes_eq line (codes "report") then reports
    else unreadable

-- ---- a script

-- the lines that are ended in these bytes
abbrev pub ended_lines : List ℕ → List Line
ended_lines bytes = map line_of (cut bytes).ended

-- all lines of these bytes
abbrev pub all_lines : List ℕ → List Line
all_lines bytes = ended_lines bytes ++ map line_of (unended (cut bytes).behind)
