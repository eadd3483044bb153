-- For callers: what the laws say of accepted files, and of what one is pruned to.
use Rattle.std.specs.Prelude.{◌≡◌, ◌≤◌, ℕ, List, length, None}
use Rattle.dk_model.specs.declared.limits.Limits.{Limits}
use Rattle.dk_lexer.specs.Tokens.{input_limit, whole}
use Rattle.text_law.specs.Cuts.{lines}
use Rattle.scope_terms.specs.Scopes.{Module}
use Rattle.theory_walk.specs.BookReadings.{book_reading}
use Rattle.theory_walk.specs.Libraries.{Library, opened}
use Rattle.theory_walk.specs.declared.needs.ModuleLimits.{ModuleLimits}
use Rattle.verdict_book.specs.Report.{concat}
use Rattle.verdict_book.specs.declared.outcome.Outcome.TheVariants.{Accepted}
use Rattle.file_report.specs.Folds.{fold_of}
use Rattle.file_report.specs.Outcomes.{no_theory}
use Rattle.file_report.specs.Theories.{checking}
use Rattle.prune_file.specs.Files.{IsAccepted, commands_in}
use Rattle.command_texts.specs.Spans.{cut}
use Rattle.command_texts.specs.declared.span.Span.{Span}
use Rattle.prune_file.specs.Pruned.{IsPruned}
use Rattle.prune_file.specs.Standing.{StandsAlone}

-- the file is read alone: no other is opened
abbrev pub no_modules : ModuleLimits
no_modules = record { files = 1; modules = 0 }

-- the report of a theory, of these books, is that all its commands are accepted, so many
abbrev pub IsReported : Limits → ModuleLimits → Module → ℕ → Library → ℕ → Type 0
IsReported limits most own budget lib count = (fold_of (checking limits budget own) most own lib no_theory).outcome ≡ Accepted count

-- the file's own book has these bytes
abbrev pub IsFileOf : Limits → List ℕ → Library → Type 0
IsFileOf limits bytes lib = lib None ≡ opened (book_reading limits bytes whole)

-- a file that is reported as accepted where it is read alone is so
abbrev pub ReportedIsAccepted : Type 0
ReportedIsAccepted = (limits : Limits) (own : Module) (budget : ℕ) (bytes : List ℕ) (lib : Library) (count : ℕ)
    → IsFileOf limits bytes lib → IsReported limits no_modules own budget lib count → IsAccepted limits own budget bytes

-- and one that is so is reported as accepted, whatever modules lie beside it
abbrev pub AcceptedIsReported : Type 0
AcceptedIsReported = (limits : Limits) (most : ModuleLimits) (own : Module) (budget : ℕ) (bytes : List ℕ) (lib : Library) (file : IsAccepted limits own budget bytes)
    → IsFileOf limits bytes lib → IsReported limits most own budget lib (length (commands_in file.items))

-- what a file is pruned to stands alone
abbrev pub PrunedStandsAlone : Type 0
PrunedStandsAlone = (limits : Limits) (own : Module) (budget : ℕ) (name bytes text : List ℕ) (p : IsPruned limits own budget name bytes text)
    → length text ≤ input_limit limits → StandsAlone limits own budget name bytes text p

-- the texts that have these spans in the bytes, each on lines of its own
abbrev pub text_at : List ℕ → List Span → List ℕ
text_at bytes spans = concat (lines (cut bytes spans))
