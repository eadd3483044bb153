-- Trusted: the texts of a session, each one command on one line, and the report of them (docs/sessions.md).
use Rattle.std.specs.Prelude.{ℕ, ◌==◌, ◌&&◌, not, Bool, true, false, Option, Some, None, List, [], ◌∷◌, ◌++◌}
use Rattle.std.specs.List.{list_any, flat_map}
use Rattle.dk_model.specs.declared.limits.Limits.{Limits}
use Rattle.dk_lexer.specs.declared.token.Token.{Token}
use Rattle.dk_lexer.specs.declared.token.TokenKind.{TokenKind}
use Rattle.dk_lexer.specs.declared.token.TokenKind.TheVariants.{Qualified}
use Rattle.dk_lexer.specs.Tokens.{tokens, whole}
use Rattle.dk_parser.specs.FileReading.{Tail, read}
use Rattle.dk_parser.specs.FileReading as tail
use Rattle.dk_parser.specs.Modules.{is_directive}
use Rattle.dk_parser.specs.Written.{WrittenCommand, WrittenForm}
use Rattle.prune_theory.specs.Folds.{Stated}
use Rattle.theory_walk.specs.BookReadings.{book_reading}
use Rattle.theory_walk.specs.Libraries.{Library, opened, unopened}
use Rattle.theory_walk.specs.declared.needs.ModuleLimits.{ModuleLimits}
use Rattle.verdict_book.specs.Report.{FileReport}
use Rattle.file_report.specs.Folds.{fold_of}
use Rattle.file_report.specs.Outcomes.{no_theory}
use Rattle.file_report.specs.Theories.{checking}

-- ---- one text

-- the one command or directive of a reading that ends behind it
abbrev pub only_form : List WrittenCommand → Tail → Option WrittenForm
only_form (c ∷ []) tail.whole = Some c.form
only_form cs t = None

-- the command or directive that bytes are read as, where they are read as one and no more
abbrev pub form_of : Limits → List ℕ → Option WrittenForm
form_of limits text = only_form (read limits text whole).commands (read limits text whole).tail

abbrev pub is_qualified : TokenKind → Bool
is_qualified Qualified = true
is_qualified kind = false

-- a command without directives and qualified names, those of rules too
abbrev pub is_plain : List Token → Option WrittenForm → Bool
is_plain ts None = false
is_plain ts (Some form) = not (is_directive form) && not (list_any (λ (t : Token). is_qualified t.kind) ts)

-- the text is one command of one line
abbrev pub is_command_text : Limits → List ℕ → Bool
is_command_text limits text = not (list_any (λ b. b == 10) text) && is_plain (tokens limits text whole).tokens (form_of limits text)

-- ---- the texts of a session, one a line

-- the commands of the texts
abbrev pub maybe_form : Option WrittenForm → List WrittenForm
maybe_form None = []
maybe_form (Some form) = form ∷ []

abbrev pub forms_of : Limits → List (List ℕ) → List WrittenForm
forms_of limits texts = flat_map (λ text. maybe_form (form_of limits text)) texts

-- a command of a session, in the module without a name
abbrev pub at_top : WrittenForm → Stated
at_top form = record { place = None; form = form }

-- a file of its own, with these bytes
abbrev pub library_of : Limits → List ℕ → Library
library_of limits bytes None = opened (book_reading limits bytes whole)
library_of limits bytes (Some m) = unopened

-- no other file is read
abbrev pub alone : ModuleLimits
alone = record { files = 1; modules = 0 }

abbrev pub report_of_bytes : Limits → ℕ → List ℕ → FileReport
report_of_bytes limits budget bytes = fold_of (checking limits budget None) alone None (library_of limits bytes) no_theory

-- the texts, each with a newline behind it
abbrev pub bytes_of : List (List ℕ) → List ℕ
bytes_of texts = flat_map (λ text. text ++ 10 ∷ []) texts

abbrev pub report_of_texts : Limits → ℕ → List (List ℕ) → FileReport
report_of_texts limits budget texts = report_of_bytes limits budget (bytes_of texts)
