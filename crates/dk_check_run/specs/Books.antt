-- Trusted: how the file that is asked for, and the modules beside it, are read from books, and their report (docs/modules.md).
use Rattle.std.specs.Prelude.{ℕ, List, [], ◌∷◌, Option, Some, None}
use Rattle.dk_io.specs.Bytes.{Books}
use Rattle.dk_model.specs.declared.limits.Limits.{Limits}
use Rattle.dk_make.specs.Theory.{theory_of}
use Rattle.command_line.specs.Requests.{CheckRequest, MakeRequest}
use Rattle.verdict_book.specs.Report.{FileReport}
use Rattle.theory_walk.specs.declared.needs.ModuleLimits.{ModuleLimits}
use Rattle.theory_walk.specs.BookNames.{book_named, own_module}
use Rattle.theory_walk.specs.Libraries.{Library}
use Rattle.file_report.specs.Folds.{fold_of}
use Rattle.file_report.specs.Outcomes.{no_theory}
use Rattle.file_report.specs.Theories.{checking}
use Rattle.book_reader.specs.Shelved.{Setting, whole_library}

-- so many files may be open, and so many modules opened besides the file
unfoldable pub standard_modules : ModuleLimits
standard_modules = record { files = 64; modules = 1000 }

-- the file is read alone
abbrev pub no_modules : ModuleLimits
no_modules = record { files = 1; modules = 0 }

-- how the file of this name is read from these books, with the modules beside it
abbrev pub setting_for : Limits → ModuleLimits → List ℕ → Books → Setting
setting_for limits most file books = record { limits = limits; most = most; own = own_module file; named = book_named file; books = books }

-- the file that is asked for, among these books
abbrev pub asked_setting : Limits → CheckRequest → Books → Setting
asked_setting limits q books = setting_for limits standard_modules q.file books

-- the made theory, which is a book without a name
abbrev pub made_setting : Limits → MakeRequest → Setting
made_setting limits q = setting_for limits no_modules [] (([], theory_of q.count) ∷ [])

-- the report of the books that a library has: their fold, each command with this budget
abbrev pub report_in : Setting → ℕ → Library → FileReport
report_in s budget lib = fold_of (checking s.limits budget s.own) s.most s.own lib no_theory

-- the report of the file that is asked for and of all that it needs, each book read to its end
abbrev pub report_for : Limits → CheckRequest → Books → FileReport
report_for limits q books = report_in (asked_setting limits q books) q.budget (whole_library (asked_setting limits q books))

-- and that of the made theory
abbrev pub report_made : Limits → MakeRequest → FileReport
report_made limits q = report_in (made_setting limits q) q.budget (whole_library (made_setting limits q))

-- where the shelf tells its books, this is so of the file in them
abbrev pub IsOfBooks : Limits → CheckRequest → Option Books → (Setting → Type 0) → Type 0
IsOfBooks limits q None P = Unit {0}
IsOfBooks limits q (Some books) P = P (asked_setting limits q books)
