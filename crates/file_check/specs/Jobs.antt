-- For proofs: the program's jobs as the law of histories sees them, and how one is made.
use Rattle.std.specs.Prelude.{◌≡◌, ◌≢◌, ◌++◌, ℕ, Bool, true, List}
use Rattle.std.specs.Option.{option_map}
use Rattle.dk_model.specs.Answering.{IsVerdictOrMemory}
use Rattle.dk_model.specs.Verdicts.{verdict_of}
use Rattle.dk_model.specs.declared.code.Verdict.{Verdict}
use Rattle.dk_model.specs.declared.code.Verdict.TheVariants.{Accepted}
use Rattle.dk_parser.specs.Written.{WrittenForm}
use Rattle.scope_terms.specs.Names.{reading}
use Rattle.scope_terms.specs.declared.names.Names.{Names}
use Rattle.scope_terms.specs.Reading.{Reading, current}
use Rattle.scope_terms.specs.Scopes.{Module, names_after, scope_of, scoped}
use Rattle.signature_log.specs.Versions.{entries_of}
use Rattle.verdict_book.specs.Report.{PlainShown, name_in}
use Rattle.verdict_book.specs.Titles.{shown_in, shown_of}
use Rattle.board_core.specs.declared.event.Place.{Place}
use Rattle.command_check.specs.Commands.{stored_command}
use Rattle.shared_term.specs.Finding.{plain_found}
use Rattle.file_report.specs.Outcomes.{Theory, scoped_entry, scoped_verdict, shown_name}
use Rattle.file_report.specs.Shown.{scoped_shown}
use Rattle.file_report.specs.Jobs.{TheoryJob, due_on, is_early_on}
use Rattle.file_check.specs.declared.job.Job.{Job}
use Rattle.file_check.specs.declared.theory.GoneOn.{GoneOn}
use Rattle.file_check.specs.declared.theory.Prepared.{Prepared}
use Rattle.file_check.specs.declared.theory.Theory.{Theory as Kept}
use Rattle.file_check.specs.Findings.{is_early}
use Rattle.file_check.specs.Shown.{shown_with, words_in}

-- the job without pointers
abbrev pub job_of : Job → TheoryJob
job_of j = record { signature = entries_of j.version; command = stored_command j.command; budget = j.budget; title = j.title.job }

-- the verdict that the job is due, and whether the reader may check it itself
abbrev pub due : Job → Verdict
due j = due_on (job_of j)

abbrev pub early : Job → Bool
early j = is_early_on (job_of j)

-- what the program's theory shows
abbrev pub theory_of : Kept → Theory
theory_of t = record { names = (reading t.names).symbols; signature = entries_of t.version }

-- how it stands with modules
abbrev pub modules_of : Kept → Reading
modules_of t = reading t.names

-- the module that is being read
abbrev pub module_at : Kept → Module
module_at t = current (modules_of t)

-- the same modules are entered, and each stands where it stood
pub record KeepsModules (old new : Kept) : Type 0 where
  pub entered : (modules_of new).entered ≡ (modules_of old).entered
  pub standing : (modules_of new).standing ≡ (modules_of old).standing

-- a verdict other than Accepted, the one that is due or want of memory
pub record IsOtherVerdict (due given : Verdict) : Type 0 where
  pub given_is : IsVerdictOrMemory due given
  pub other : given ≢ Accepted

-- the verdict on a command of the module being read, after the commands of the theory
abbrev pub verdict_in : ℕ → Kept → WrittenForm → Verdict
verdict_in budget t form = scoped_verdict (entries_of t.version) budget (scope_of (theory_of t).names (module_at t) form)

-- the theory with that command accepted
abbrev pub theory_in : ℕ → Kept → WrittenForm → Theory
theory_in budget t form = record {
  names = names_after (theory_of t).names (module_at t) form;
  signature = entries_of t.version ++ scoped_entry (entries_of t.version) budget (scope_of (theory_of t).names (module_at t) form);
}

-- what is shown of that command where it is accepted, the module of its book being this, as reports have it
abbrev pub line_in : ℕ → Kept → WrittenForm → List ℕ → PlainShown
line_in budget t form home =
    scoped_shown (words_in (modules_of t)) (name_in home (shown_name form)) (entries_of t.version) budget (scope_of (theory_of t).names (module_at t) form)

-- the theory went on as if the command were accepted, and this is known of it
pub record GoesOn (budget : ℕ) (old : Kept) (form : WrittenForm) (gone : GoneOn) (new : Kept) : Type 0 where
  pub before : entries_of gone.before ≡ entries_of old.version
  pub command : scope_of (theory_of old).names (module_at old) form ≡ scoped (stored_command gone.stored)
  pub shown : (home : List ℕ) → shown_in home (shown_with (words_in (modules_of new)) form (option_map plain_found gone.found)) ≡ line_in budget old form home
  pub early : gone.settled ≡ is_early (stored_command gone.stored)
  pub settled : gone.settled ≡ true → (is_early (stored_command gone.stored) ≡ true) × (verdict_of (entries_of gone.before) (stored_command gone.stored) budget ≡ Accepted)
  pub theory : theory_of new ≡ theory_in budget old form
  pub modules : KeepsModules old new

-- the job of such a command, which stands at this place, and its title
pub record IsPrepared (budget : ℕ) (names : Names) (gone : GoneOn) (form : WrittenForm) (place : Place) (p : Prepared) : Type 0 where
  pub version : p.job.version ≡ gone.before
  pub command : p.job.command ≡ gone.stored
  pub budget_is : p.job.budget ≡ budget
  pub settled : p.settled ≡ gone.settled
  pub place_is : p.title.place ≡ place
  pub shown : p.title.shown ≡ shown_with (words_in (reading names)) form (option_map plain_found gone.found)
  pub title : p.title ≡ p.job.title.job

-- the command's job over this theory, and the theory that goes on as if the command, which stands at this place, were accepted
pub record Prepares (budget : ℕ) (old : Kept) (form : WrittenForm) (place : Place) (p : Prepared) (new : Kept) : Type 0 where
  pub signature : (job_of p.job).signature ≡ entries_of old.version
  pub command : scope_of (theory_of old).names (module_at old) form ≡ scoped (job_of p.job).command
  pub budget_is : (job_of p.job).budget ≡ budget
  pub place_is : p.title.place ≡ place
  pub shown_is : shown_of p.title ≡ line_in budget old form place.«module»
  pub title : p.title ≡ (job_of p.job).title
  pub early : p.settled ≡ is_early_on (job_of p.job)
  pub settled : p.settled ≡ true → (is_early_on (job_of p.job) ≡ true) × (due_on (job_of p.job) ≡ Accepted)
  pub theory : theory_of new ≡ theory_in budget old form
