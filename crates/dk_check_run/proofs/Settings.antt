-- The books that are read are those that were asked for, and their fold is the report of their commands in the order of first need.
use Rattle.std.proofs.Common.{◌≡◌, ℕ, List, Option, ap, ◌∙◌}
use Rattle.std.specs.String.{string_bytes}
use Rattle.dk_io.specs.Bytes.{Books}
use Rattle.dk_model.specs.declared.limits.Limits.{Limits}
use Rattle.command_line.specs.Requests.{CheckRequest}
use Rattle.theory_walk.specs.declared.needs.ModuleLimits.{ModuleLimits}
use Rattle.theory_walk.specs.BookNames.{book_named, own_module}
use Rattle.theory_walk.specs.Libraries.{Library}
use Rattle.file_report.specs.Outcomes.{no_theory}
use Rattle.file_report.specs.Theories.{checking}
use Rattle.file_report.proofs.Folding.{fold_is_report}
use Rattle.book_reader.specs.declared.walker.Root.{Root}
use Rattle.book_reader.specs.Shelved.{Setting}
use Rattle.book_reader.specs.Walkers.{setting_of}
use Rattle.file_check.specs.Counts as check
use Rattle.dk_check_run.specs.Books.{asked_setting, report_in, setting_for, standard_modules}
use Rattle.dk_check_run.specs.Roots.{IsRootOf}

abbrev setting_with : Limits → ModuleLimits → Option (List ℕ) → List ℕ → Books → Setting
setting_with limits most own file books = record { limits = limits; most = most; own = own; named = book_named file; books = books }

pub root_setting : (limits : Limits) (most : ModuleLimits) (file : List ℕ) (root : Root) (books : Books) → IsRootOf limits most file root → setting_of root books ≡ setting_for limits most file books
root_setting limits most file root books is =
    ap (λ l. setting_with l root.most root.own (string_bytes root.file) books) is.limits_are
    ∙ ap (λ m. setting_with limits m root.own (string_bytes root.file) books) is.most_are
    ∙ ap (λ o. setting_with limits most o (string_bytes root.file) books) is.own_is
    ∙ ap (λ f. setting_with limits most (own_module file) f books) is.file_is

-- those of the file that was asked for
pub root_asked : (limits : Limits) (q : CheckRequest) (most : ModuleLimits) (root : Root) (books : Books) → IsRootOf limits most q.file root → most ≡ standard_modules → setting_of root books ≡ asked_setting limits q books
root_asked limits q most root books is standard = root_setting limits most q.file root books is ∙ ap (λ m. setting_for limits m q.file books) standard

-- the fold of a library's books is the report of their commands
pub fold_is : (s : Setting) (budget : ℕ) (lib : Library) → report_in s budget lib ≡ check.report_in s budget lib
fold_is s budget lib = fold_is_report (checking s.limits budget s.own) s.most s.own lib no_theory
