-- Trusted: the text of a report and its status (docs/report.md).
use Rattle.std.specs.Prelude.{ℕ, ◌+◌, ◌&&◌, Bool, true, false, List, [], ◌∷◌, ◌++◌, codes, decimal, if◌then◌else◌}
use Rattle.dk_model.specs.declared.code.Verdict.{Verdict}
use Rattle.dk_model.specs.declared.code.Verdict.TheVariants as verdict
use Rattle.dk_model.specs.Codes.{code_text}
use Rattle.board_core.specs.declared.event.Place.{Place}
use Rattle.board_core.specs.Places.{in_file}
use Rattle.verdict_book.specs.declared.outcome.Outcome.{Outcome}
use Rattle.verdict_book.specs.declared.outcome.Outcome.TheVariants.{Accepted, Stopped, Unread, Unopened}

-- the pieces, one after the other
abbrev pub concat : List (List ℕ) → List ℕ
concat [] = []
concat (piece ∷ pieces) = piece ++ concat pieces

-- the file of a module in this folder
abbrev pub module_book : List ℕ → List ℕ → List ℕ
module_book folder name = concat (folder ∷ name ∷ codes ".dk" ∷ [])

-- what a last line says of the file of its place: nothing, where that is the file that is checked
abbrev pub in_book : List ℕ → List ℕ → List ℕ
in_book folder [] = []
in_book folder (letter ∷ letters) = codes " in " ++ module_book folder (letter ∷ letters)

-- the place of what ended before anything was begun
abbrev pub nowhere : Place
nowhere = in_file 0

-- what a report shows of an accepted command: its name; what `#CHECK` found; the printed term that `#INFER` or `#EVAL` found
pub data PlainShown : Type 0 where
  ok_name : List ℕ → PlainShown
  says_yes : PlainShown
  says_no : PlainShown
  says_type : List ℕ → PlainShown
  says_value : List ℕ → PlainShown

-- a word, the number of a command, and a text
abbrev pub text_line : List ℕ → ℕ → List ℕ → List ℕ
text_line word number text = concat (word ∷ codes " " ∷ decimal number ∷ codes " " ∷ text ∷ codes "\n" ∷ [])

-- a word and the number of a command
abbrev pub word_line : List ℕ → ℕ → List ℕ
word_line word number = concat (word ∷ codes " " ∷ decimal number ∷ codes "\n" ∷ [])

-- the line of the accepted command of that number
abbrev pub shown_line : ℕ → PlainShown → List ℕ
shown_line number (ok_name name) = text_line (codes "ok") number name
shown_line number says_yes = word_line (codes "yes") number
shown_line number says_no = word_line (codes "no") number
shown_line number (says_type term) = text_line (codes "type") number term
shown_line number (says_value term) = text_line (codes "value") number term

-- a quiet report has no such line
abbrev pub is_ok : PlainShown → Bool
is_ok (ok_name name) = true
is_ok says_yes = false
is_ok says_no = false
is_ok (says_type term) = false
is_ok (says_value term) = false

-- the same in a report that may be quiet
abbrev pub line_of : Bool → ℕ → PlainShown → List ℕ
line_of quiet number shown = if quiet && is_ok shown then [] else shown_line number shown

-- the lines of accepted commands, the first of them of that number; numbers count the lines that a quiet report leaves out
abbrev pub lines_of : Bool → ℕ → List PlainShown → List ℕ
lines_of quiet number [] = []
lines_of quiet number (shown ∷ more) = line_of quiet number shown ++ lines_of quiet (number + 1) more

-- what the last line says of the command of that number at that line
abbrev pub stop_text : ℕ → ℕ → Verdict → ℕ → List ℕ
stop_text number line (verdict.Refused code) budget =
    concat (codes "refused " ∷ decimal number ∷ codes " line " ∷ decimal line ∷ codes " " ∷ code_text code ∷ [])
stop_text number line verdict.Ended budget =
    concat (codes "budget " ∷ decimal number ∷ codes " line " ∷ decimal line ∷ codes " " ∷ decimal budget ∷ [])
stop_text number line verdict.Memory budget =
    concat (codes "memory " ∷ decimal number ∷ codes " line " ∷ decimal line ∷ [])
stop_text number line verdict.Accepted budget = []

-- the last line
abbrev pub last_line : Outcome → ℕ → List ℕ → List ℕ
last_line (Accepted count) budget folder = concat (codes "accepted " ∷ decimal count ∷ codes "\n" ∷ [])
last_line (Stopped number place v) budget folder =
    concat (stop_text number place.line v budget ∷ in_book folder place.«module» ∷ codes "\n" ∷ [])
last_line (Unread number place) budget folder =
    concat (codes "unread " ∷ decimal number ∷ in_book folder place.«module» ∷ codes "\n" ∷ [])
last_line (Unopened name) budget folder = concat (codes "unopened " ∷ module_book folder name ∷ codes "\n" ∷ [])

-- the report of a file: the lines of the accepted commands and the last line
abbrev pub report_of : List PlainShown → Outcome → ℕ → Bool → List ℕ → List ℕ
report_of lines outcome budget quiet folder = lines_of quiet 1 lines ++ last_line outcome budget folder

-- what is shown of the accepted commands, and the outcome
pub record FileReport : Type 0 where
  pub lines : List PlainShown
  pub outcome : Outcome

-- the status where a file stops with that verdict
abbrev pub stop_status : Verdict → ℕ
stop_status verdict.Accepted = 0
stop_status (verdict.Refused code) = 1
stop_status verdict.Ended = 6
stop_status verdict.Memory = 4

-- the status of a report
abbrev pub status_of : Outcome → ℕ
status_of (Accepted count) = 0
status_of (Stopped number place v) = stop_status v
status_of (Unread number place) = 3
status_of (Unopened name) = 3

-- the name in the `ok` line of a command of this module, which is empty for the file that is checked
abbrev pub name_in : List ℕ → List ℕ → List ℕ
name_in [] name = name
name_in (letter ∷ letters) name = concat ((letter ∷ letters) ∷ codes "." ∷ name ∷ [])
