-- For callers: what the texts of a session are read as, and the report of a list of commands, one a line.
use Rattle.std.specs.Prelude.{ℕ, ◌+◌, ◌≡◌, ◌≤◌, true, false, Some, None, List, [], ◌∷◌, All, length, map}
use Rattle.dk_model.specs.declared.limits.Limits.{Limits}
use Rattle.dk_lexer.specs.Tokens.{input_limit}
use Rattle.dk_lexer.specs.Tokens as lexer
use Rattle.dk_parser.specs.FileReading.{Reading, read}
use Rattle.dk_parser.specs.FileReading as reading
use Rattle.dk_parser.specs.Modules.{is_directive, modules_of}
use Rattle.dk_parser.specs.Written.{WrittenCommand, WrittenForm}
use Rattle.theory_walk.specs.Walks.{Placed, goes_on}
use Rattle.verdict_book.specs.Report.{FileReport}
use Rattle.file_report.specs.Outcomes.{no_theory}
use Rattle.file_report.specs.TheoryReports.{report_from}
use Rattle.file_report.specs.Theories.{checking}
use Rattle.edit_session.specs.Texts.{bytes_of, forms_of, form_of, is_command_text, report_of_texts}

-- commands on lines of their own, the first on this line
abbrev pub numbered : ℕ → List WrittenForm → List WrittenCommand
numbered line [] = []
numbered line (form ∷ forms) = record { line = line; form = form } ∷ numbered (line + 1) forms

-- commands of the file's own book
abbrev pub placed_in : List WrittenCommand → List Placed
placed_in items = map (λ item. record { book = None; command = item }) items

-- the report of these commands, number K on line K, of which none needs a module
abbrev pub report_from_forms : Limits → ℕ → List WrittenForm → FileReport
report_from_forms limits budget forms = report_from (checking limits budget None) no_theory 0 (placed_in (numbered 1 forms)) (goes_on [])

-- ---- what the laws say

-- each of the texts is one command
abbrev pub AreCommandTexts : Limits → List (List ℕ) → Type 0
AreCommandTexts limits texts = All (λ text. is_command_text limits text ≡ true) texts

-- the texts together, each with a newline, have no more bytes than an input may
abbrev pub Fit : Limits → List (List ℕ) → Type 0
Fit limits texts = length (bytes_of texts) ≤ input_limit limits

-- the bytes of the texts are read as just their commands, that of text K on line K
abbrev pub TextsAreCommands : Type 0
TextsAreCommands = (limits : Limits) (texts : List (List ℕ)) → AreCommandTexts limits texts → Fit limits texts
    → read limits (bytes_of texts) lexer.whole ≡ (let r : Reading = record { commands = numbered 1 (forms_of limits texts); tail = reading.whole } in r)

-- a command without qualified names needs no module
abbrev pub NeedsNone : WrittenForm → Type 0
NeedsNone form = (is_directive form ≡ false) × (modules_of form ≡ [])

abbrev pub CommandsNeedNone : Type 0
CommandsNeedNone = (limits : Limits) (text : List ℕ) (form : WrittenForm) → is_command_text limits text ≡ true → form_of limits text ≡ Some form → NeedsNone form

-- so the report of the texts is that of their commands
abbrev pub ReportsComeFromForms : Type 0
ReportsComeFromForms = (limits : Limits) (budget : ℕ) (texts : List (List ℕ)) → AreCommandTexts limits texts → Fit limits texts
    → report_of_texts limits budget texts ≡ report_from_forms limits budget (forms_of limits texts)
