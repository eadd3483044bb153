-- Trusted: a theory behind some commands: how the next one is scoped, its verdict, what is shown of it, and the theory with it
-- (docs/modules.md).
use Rattle.std.specs.Prelude.{ℕ, List, ◌++◌, nat_le, if◌then◌else◌, Option}
use Rattle.dk_model.specs.Scoping.{PlainCommand}
use Rattle.dk_model.specs.declared.code.Code.TheVariants.{E08}
use Rattle.dk_model.specs.declared.code.Verdict.{Verdict}
use Rattle.dk_model.specs.declared.code.Verdict.TheVariants as verdict
use Rattle.dk_model.specs.declared.limits.Limits.{Limits}
use Rattle.scope_terms.specs.Scopes.{Scoping, names_after, scope_of}
use Rattle.theory_walk.specs.Walks.{Placed, module_in}
use Rattle.term_print.specs.Words.{word_of}
use Rattle.verdict_book.specs.Report.{PlainShown}
use Rattle.file_report.specs.Outcomes.{Theory, scoped_entry, scoped_verdict}
use Rattle.file_report.specs.Reports.{Checking, name_of}
use Rattle.file_report.specs.Shown.{scoped_shown}

-- within these limits, with this budget, where this is the file's own module
module _ (limits : Limits) (budget : ℕ) (own : Option (List ℕ)) where
  -- a command is scoped in the module of its book
  abbrev pub scoped_at : Theory → Placed → Scoping PlainCommand
  scoped_at T c = scope_of T.names (module_in own c.book) c.command.form

  -- the verdict on the command behind so many accepted ones
  abbrev pub verdict_on : Theory → ℕ → Placed → Verdict
  verdict_on T count c = if nat_le limits.commands count then verdict.Refused E08 else scoped_verdict T.signature budget (scoped_at T c)

  -- what is shown of the command where it is accepted; the symbols of a printed term are spelt as in the module of its book
  abbrev pub shown_on : Theory → Placed → PlainShown
  shown_on T c = scoped_shown (word_of T.names (module_in own c.book)) (name_of c) T.signature budget (scoped_at T c)

  -- the theory with an accepted command
  abbrev pub theory_with : Theory → Placed → Theory
  theory_with T c = record {
    names = names_after T.names (module_in own c.book) c.command.form;
    signature = T.signature ++ scoped_entry T.signature budget (scoped_at T c);
  }

  abbrev pub checking : Checking Theory
  checking = record { verdict_on = verdict_on; shown_on = shown_on; after = theory_with }
