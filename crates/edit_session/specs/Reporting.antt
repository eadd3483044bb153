-- For proofs: the report of a session as it is made and written.
use Rattle.std.specs.Prelude.{ℕ, ◌≡◌, ◌≢◌, true, false, Option, Some, Result, Ok, Err, List, length, replicate}
use Rattle.std.specs.List.{list_any}
use Rattle.dk_model.specs.declared.code.Verdict.TheVariants as verdict
use Rattle.dk_model.specs.declared.limits.Limits.{Limits}
use Rattle.dk_io.specs.Bytes.{AddsSome, added}
use Rattle.board_core.specs.Events.{end_of, is_fault, is_seal, puts}
use Rattle.board_core.specs.Machine.{IsFinished, marks_of}
use Rattle.board_core.specs.Shown.{Shown}
use Rattle.board_core.specs.declared.event.End.{End}
use Rattle.board_core.specs.declared.event.End.TheVariants as end
use Rattle.verdict_book.specs.Books.{IsReportOf}
use Rattle.edit_session.specs.Folding.{IsCounted, KeepsSlots, forms_in}
use Rattle.edit_session.specs.Forms.{report_from_forms}
use Rattle.edit_session.specs.declared.fold.Fold.{Fold}
use Rattle.edit_session.specs.declared.report.ReportFault.{ReportFault}
use Rattle.edit_session.specs.declared.report.ReportFault.TheVariants.{Failed, NoMemory}
use Rattle.edit_session.specs.declared.slot.Slot.{Slot}

-- the reader's own end: that of the texts, or a command's verdict
abbrev pub IsOwnEnd : End → Type 0
IsOwnEnd end.Whole = Unit {0}
IsOwnEnd (end.Fault place v) = v ≢ verdict.Accepted
IsOwnEnd (end.Unread place) = ⊥
IsOwnEnd (end.Unopened name) = ⊥
IsOwnEnd end.Stopped = ⊥

-- so many jobs, all of them done, none at fault, and this end
pub record IsEnded (b : Shown (Unit {0})) (count : ℕ) (e : End) : Type 0 where
  pub marks : marks_of b.jobs ≡ replicate count true
  pub sealed : list_any is_seal b.events ≡ true
  pub faultless : list_any is_fault b.events ≡ false
  pub end_is : end_of b.events ≡ Some e
  pub puts_are : puts b.events ≡ length b.jobs

-- the fold over all texts has their report
pub record IsReported (limits : Limits) (budget : ℕ) (start slots : List Slot) (f : Fold) : Type 0 where
  pub counted : IsCounted limits budget start slots f.checked
  pub slots_kept : KeepsSlots limits budget start slots
  pub finished : IsFinished (marks_of f.lines.book.jobs) f.lines.book.events
  pub all : length f.lines.titles ≡ length f.lines.book.jobs
  pub report : IsReportOf f.lines.titles f.lines.book.events (report_from_forms limits budget (forms_in start))

-- the text was added, or a front of it where a write failed
abbrev pub WroteReport : Option (List ℕ) → Option (List ℕ) → List ℕ → Result ℕ ReportFault → Type 0
WroteReport before after text (Ok count) = after ≡ added before text
WroteReport before after text (Err Failed) = AddsSome before after text
WroteReport before after text (Err NoMemory) = Unit {0}
