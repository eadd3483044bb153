-- For callers: the histories in which a theory of several files is checked, and the report that is due (docs/modules.md, docs/board.md).
use Rattle.std.specs.Prelude.{◌≡◌, ◌⊎◌, ◌≤◌, ◌<◌, ℕ, ◌+◌, Bool, List, [], ◌∷◌, length, map, take, drop, Option, Some}
use Rattle.dk_model.specs.declared.code.Verdict.TheVariants as verdict
use Rattle.dk_model.specs.declared.limits.Limits.{Limits}
use Rattle.theory_walk.specs.Walks.{Placed, Spot, Walk, ends, goes_on, not_opened, spot_of, unread_at}
use Rattle.board_core.specs.declared.event.End.{End}
use Rattle.board_core.specs.declared.event.End.TheVariants as end
use Rattle.board_core.specs.declared.event.Event.{Event}
use Rattle.board_core.specs.declared.event.Place.{Place}
use Rattle.board_core.specs.Events.{end_of}
use Rattle.board_core.specs.Machine.{IsFinished, IsLegal, marks_of}
use Rattle.verdict_book.specs.Report.{FileReport, PlainShown, nowhere}
use Rattle.verdict_book.specs.declared.outcome.Outcome.{Outcome}
use Rattle.verdict_book.specs.declared.outcome.Outcome.TheVariants.{Stopped}
use Rattle.file_report.specs.Outcomes.{no_theory}
use Rattle.file_report.specs.TheoryReports as report
use Rattle.file_report.specs.Reports.{book_place, place_of}
use Rattle.file_report.specs.Jobs.{AreJobsBehind, TheoryJob, due_on, is_early_on, theory_behind}
use Rattle.file_report.specs.TheoryReports.{report_of_walk}
use Rattle.file_report.specs.Theories.{checking}

-- the place of the command behind so many; or, behind all jobs, that at which the history ends for want of memory
abbrev pub DueAt : Walk → Option End → ℕ → ℕ → Place → Type 0
DueAt w sealed jobs count place =
    ((c : Placed) × (later : List Placed) × (drop count w.commands ≡ c ∷ later) × (place ≡ place_of (spot_of c)))
    ⊎ ((count ≡ jobs) × (sealed ≡ Some (end.Fault place verdict.Memory)))

module _ (limits : Limits) (budget : ℕ) (own : Option (List ℕ)) where
  -- the report of what is behind the first commands of a walk, going on as if each of them were accepted
  abbrev pub behind : Walk → ℕ → FileReport
  behind w count =
      report.report_from (checking limits budget own) (theory_behind limits budget own no_theory (take count w.commands)) count
      (drop count w.commands) w.reached

  -- how the reader of a theory ends behind so many jobs: all its commands are jobs, and the file ends, a read failed, or a book
  -- couldn't be opened; or the next command has this verdict; or memory ended; or some job was at fault
  abbrev pub EndsReading : Walk → ℕ → End → Type 0
  EndsReading w count end.Whole = (drop count w.commands ≡ []) × ((known : List (List ℕ)) × (w.reached ≡ goes_on known))
  EndsReading w count (end.Unread place) = (drop count w.commands ≡ []) × ((spot : Spot) × (w.reached ≡ ends (unread_at spot)) × (place ≡ book_place spot.book))
  EndsReading w count (end.Unopened m) = (drop count w.commands ≡ []) × ((spot : Spot) × (w.reached ≡ ends (not_opened spot m)))
  EndsReading w count (end.Fault place verdict.Memory) = ((count ≡ 0) × (place ≡ nowhere)) ⊎ (0 < place.line)
  EndsReading w count (end.Fault place v) = behind w count ≡ record { lines = []; outcome = Stopped (count + 1) place v }
  EndsReading w count end.Stopped = Unit {0}

  -- the first commands of a theory were put as jobs, and checked, by whomever and in whatever order
  pub record ChecksJobsIn {J : Type 0} (job_of : J → TheoryJob) (w : Walk) (jobs : List (J × Bool)) (events : List Event) : Type 0 where
    pub legal : IsLegal (λ j. due_on (job_of j)) (λ j. is_early_on (job_of j)) jobs events
    pub finished : IsFinished (marks_of jobs) events
    pub few : length jobs ≤ limits.commands
    pub jobs_are : AreJobsBehind limits budget own no_theory w.commands (map (λ j. job_of j.0) jobs)

  -- and the end of the history is the reader's
  pub record ChecksTheory {J : Type 0} (job_of : J → TheoryJob) (w : Walk) (jobs : List (J × Bool)) (events : List Event) : Type 0 where
    pub checks : ChecksJobsIn job_of w jobs events
    pub ends : (e : End) → end_of events ≡ Some e → EndsReading w (length jobs) e

  -- the first lines of the theory's own report, and that memory ended at the next command, at this place
  pub record IsCut (w : Walk) (sealed : Option End) (jobs : ℕ) (lines : List PlainShown) (number : ℕ) (place : Place) : Type 0 where
    pub lines_are : lines ≡ take (length lines) (report_of_walk limits budget own w).lines
    pub within : length lines ≤ length (report_of_walk limits budget own w).lines
    pub number_is : number ≡ length lines + 1
    pub memory : DueAt w sealed jobs (length lines) place

  -- these lines and this outcome are the report of the theory, or memory ended: before the first command was begun, or behind
  -- some of its commands; the history has so many jobs and this end
  abbrev pub ReportsTheory : Walk → Option End → ℕ → List PlainShown → Outcome → Type 0
  ReportsTheory w sealed jobs lines (Stopped number place verdict.Memory) =
      ((lines ≡ []) × (number ≡ 0) × (place ≡ nowhere)) ⊎ IsCut w sealed jobs lines number place
  ReportsTheory w sealed jobs lines outcome = report_of_walk limits budget own w ≡ record { lines = lines; outcome = outcome }
