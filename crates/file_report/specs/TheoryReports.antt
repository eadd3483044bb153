-- For callers: the report of a theory's commands, one after the other, up to the first that isn't accepted (docs/modules.md, docs/report.md).
use Rattle.std.specs.Prelude.{ℕ, ◌+◌, List, [], ◌∷◌, ◌++◌, Option}
use Rattle.dk_model.specs.declared.code.Verdict.{Verdict}
use Rattle.dk_model.specs.declared.code.Verdict.TheVariants as verdict
use Rattle.dk_model.specs.declared.limits.Limits.{Limits}
use Rattle.verdict_book.specs.Report.{FileReport, PlainShown}
use Rattle.theory_walk.specs.Walks.{Placed, Reached, Walk, spot_of}
use Rattle.file_report.specs.Outcomes.{no_theory}
use Rattle.file_report.specs.Reports.{Checking, reached_outcome, stopped_at}
use Rattle.file_report.specs.Theories.{checking}

abbrev pub with_lines : List PlainShown → FileReport → FileReport
with_lines lines r = record { lines = lines ++ r.lines; outcome = r.outcome }

-- an accepted command has its line, which shows this, and the others follow; any other verdict ends the theory
abbrev pub by_verdict : Verdict → ℕ → Placed → PlainShown → FileReport → FileReport
by_verdict verdict.Accepted count c shown rest = with_lines (shown ∷ []) rest
by_verdict v count c shown rest = record { lines = []; outcome = stopped_at (count + 1) (spot_of c) v }

module _ {T : Type 0} (checks : Checking T) where
  abbrev pub report_from : T → ℕ → List Placed → Reached → FileReport
  report_from t count [] r = record { lines = []; outcome = reached_outcome count r }
  report_from t count (c ∷ cs) r = by_verdict (checks.verdict_on t count c) count c (checks.shown_on t c) (report_from (checks.after t c) (count + 1) cs r)

-- within these limits, with this budget, where this is the file's own module
module _ (limits : Limits) (budget : ℕ) (own : Option (List ℕ)) where
  -- the report of a theory's commands; the fold of its books is the same (`fold_of_books`)
  abbrev pub report_of_walk : Walk → FileReport
  report_of_walk w = report_from (checking limits budget own) no_theory 0 w.commands w.reached
