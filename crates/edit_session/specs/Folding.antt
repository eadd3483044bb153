-- For proofs: the commands of a session, one after the other.
use Rattle.std.specs.Prelude.{ℕ, ◌≡◌, ◌≢◌, ◌+◌, true, false, Option, Some, List, [], All, drop, length, map, replicate, slice_get, take, None}
use Rattle.std.specs.List.{list_any}
use Rattle.dk_model.specs.PlainCommands.{PlainCommand}
use Rattle.dk_model.specs.declared.code.Verdict.{Verdict}
use Rattle.dk_model.specs.declared.code.Verdict.TheVariants as verdict
use Rattle.dk_model.specs.declared.limits.Limits.{Limits}
use Rattle.dk_parser.specs.RawViews.{written_form}
use Rattle.dk_parser.specs.Written.{WrittenForm}
use Rattle.board_core.specs.Events.{is_fault, is_seal}
use Rattle.board_core.specs.Machine.{marks_of}
use Rattle.board_core.specs.Places.{in_file}
use Rattle.board_core.specs.Shown.{Shown}
use Rattle.scope_terms.specs.Names.{reading}
use Rattle.scope_terms.specs.Reading.{current, no_reading}
use Rattle.signature_log.specs.Versions.{entries_of}
use Rattle.theory_walk.specs.Walks.{goes_on}
use Rattle.verdict_book.specs.Report.{FileReport}
use Rattle.verdict_book.specs.Titles.{lines_in}
use Rattle.verdict_book.specs.declared.outcome.Outcome.TheVariants as outcome
use Rattle.file_report.specs.Outcomes.{Theory}
use Rattle.file_report.specs.Theories.{checking}
use Rattle.file_report.specs.TheoryReports.{report_from, with_lines}
use Rattle.prune_theory.specs.Folds.{AreAccepted, Declared, nothing_declared}
use Rattle.edit_session.specs.Answers.{at_top}
use Rattle.edit_session.specs.Forms.{numbered, placed_in, report_from_forms}
use Rattle.edit_session.specs.Grounds.{texts_in}
use Rattle.edit_session.specs.Held.{IsSlot, plain_slot}
use Rattle.edit_session.specs.Resting.{IsResting}
use Rattle.edit_session.specs.Sessions.{AreReached, Reaches, checks, kept_then}
use Rattle.edit_session.specs.declared.fold.Fold.{Fold}
use Rattle.edit_session.specs.declared.fold.Turn.{Turn}
use Rattle.edit_session.specs.declared.fold.Turn.TheVariants.{Accepted, Stopped}
use Rattle.edit_session.specs.declared.slot.Slot.{Slot}

abbrev pub forms_in : List Slot → List WrittenForm
forms_in slots = map (λ (s : Slot). written_form s.raw.form) slots

-- so many jobs, all of them done, none at fault, and no end
pub record IsQuiet (b : Shown (Unit {0})) (count : ℕ) : Type 0 where
  pub marks : marks_of b.jobs ≡ replicate count true
  pub unsealed : list_any is_seal b.events ≡ false
  pub faultless : list_any is_fault b.events ≡ false

-- the same texts, and what is kept of each was made
pub record KeepsSlots (limits : Limits) (budget : ℕ) (old new : List Slot) : Type 0 where
  pub texts : texts_in new ≡ texts_in old
  pub forms : forms_in new ≡ forms_in old
  pub right : All (IsSlot limits budget) new

-- ---- the theory so far

abbrev pub theory_in : Declared → Theory
theory_in D = record { names = D.names; signature = D.signature }

-- the first so many forms are accepted with this budget, and the fold has what they declare
pub record IsBehindForms (budget : ℕ) (forms : List WrittenForm) (at : ℕ) (f : Fold) : Type 0 where
  pub commands : List PlainCommand
  pub left : List ℕ
  pub theory : Declared
  pub accepted : AreAccepted budget nothing_declared (map at_top (take at forms)) commands left theory
  pub names : (reading f.names).symbols ≡ theory.names
  pub current_is : current (reading f.names) ≡ None
  pub signature : entries_of f.version ≡ theory.signature
  pub resting : IsResting commands f.resting
  pub count : length commands ≡ at

-- ---- what was counted

-- for each text the list, where the report gets to it; how many checks were made, and what is kept then
pub record IsCounted (limits : Limits) (budget : ℕ) (start slots : List Slot) (checked : ℕ) : Type 0 where
  pub lists : List (Option (List (List ℕ)))
  pub reached : AreReached limits budget (texts_in start) lists
  pub checks_are : checked ≡ checks (map plain_slot start) lists
  pub kept : map plain_slot slots ≡ kept_then (map plain_slot start) lists

-- the same of the first texts, to each of which the report gets
pub record IsCountedTo (limits : Limits) (budget : ℕ) (start : List Slot) (at : ℕ) (slots : List Slot) (checked : ℕ) : Type 0 where
  pub lists : List (List (List ℕ))
  pub count : length lists ≡ at
  pub reached : (k : ℕ) (list : List (List ℕ)) → slice_get lists k ≡ Some list → Reaches limits budget (texts_in start) k list
  pub checks_are : checked ≡ checks (map plain_slot start) (map Some lists)
  pub kept : map plain_slot slots ≡ kept_then (map plain_slot start) (map Some lists)

-- ---- the fold

-- the report of these forms from the one at `at` on
abbrev pub report_behind : Limits → ℕ → List WrittenForm → ℕ → Declared → FileReport
report_behind limits budget forms at D = report_from (checking limits budget None) (theory_in D) at (placed_in (numbered (at + 1) (drop at forms))) (goes_on [])

-- the fold has come to the text at `at`: those before it are accepted
pub record IsFolded (limits : Limits) (budget : ℕ) (start : List Slot) (at : ℕ) (slots : List Slot) (f : Fold) : Type 0 where
  pub most : f.most ≡ limits.commands
  pub behind : IsBehindForms budget (forms_in start) at f
  pub lines : report_from_forms limits budget (forms_in start) ≡ with_lines (lines_in f.lines.titles) (report_behind limits budget (forms_in start) at behind.theory)
  pub titles : length f.lines.titles ≡ at
  pub quiet : IsQuiet f.lines.book at
  pub counted : IsCountedTo limits budget start at slots f.checked
  pub slots_kept : KeepsSlots limits budget start slots

-- the command of the text at `at` isn't accepted, which is how the report ends
pub record IsStopped (limits : Limits) (budget : ℕ) (start : List Slot) (at : ℕ) (v : Verdict) (slots : List Slot) (f : Fold) : Type 0 where
  pub lines : report_from_forms limits budget (forms_in start) ≡ (let r : FileReport = record { lines = lines_in f.lines.titles; outcome = outcome.Stopped (at + 1) (in_file (at + 1)) v } in r)
  pub titles : length f.lines.titles ≡ at
  pub quiet : IsQuiet f.lines.book at
  pub counted : IsCounted limits budget start slots f.checked
  pub slots_kept : KeepsSlots limits budget start slots
  pub fault : v ≢ verdict.Accepted
  pub told : v ≢ verdict.Memory

abbrev pub TurnsTo : ℕ → Fold → List Slot → Fold → List Slot → Turn → Type 0
TurnsTo at old slots new slots' Accepted = (limits : Limits) (start : List Slot) → IsFolded limits old.budget start at slots old → IsFolded limits old.budget start (at + 1) slots' new
TurnsTo at old slots new slots' (Stopped v) = (limits : Limits) (start : List Slot) → IsFolded limits old.budget start at slots old → IsStopped limits old.budget start at v slots' new

-- no command yet
pub record IsBegun (limits : Limits) (budget : ℕ) (f : Fold) : Type 0 where
  pub most : f.most ≡ limits.commands
  pub budget_is : f.budget ≡ budget
  pub names : reading f.names ≡ no_reading
  pub version : entries_of f.version ≡ []
  pub resting : IsResting [] f.resting
  pub titles : f.lines.titles ≡ []
  pub quiet : IsQuiet f.lines.book 0
  pub checked : f.checked ≡ 0
