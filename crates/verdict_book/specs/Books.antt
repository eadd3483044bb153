-- For callers: the report of a board's history: the lines of the jobs before its first fault, and its last line (docs/board.md).
use Rattle.std.specs.Prelude.{◌≡◌, ℕ, ◌+◌, ◌-◌, ◌==◌, false, List, length, map, take, slice_index_or, if◌then◌else◌, Option, Some, None}
use Rattle.std.specs.List.{list_any}
use Rattle.dk_model.specs.declared.code.Verdict.{Verdict}
use Rattle.dk_model.specs.declared.code.Verdict.TheVariants as verdict
use Rattle.board_core.specs.declared.event.End.{End}
use Rattle.board_core.specs.declared.event.End.TheVariants as end
use Rattle.board_core.specs.declared.event.Event.{Event}
use Rattle.board_core.specs.declared.event.Place.{Place}
use Rattle.board_core.specs.Events.{end_of, is_fault, IsFirstFault}
use Rattle.verdict_book.specs.Report.{FileReport, nowhere}
use Rattle.verdict_book.specs.declared.outcome.Outcome.{Outcome}
use Rattle.verdict_book.specs.declared.outcome.Outcome.TheVariants.{Accepted, Stopped, Unread, Unopened}
use Rattle.verdict_book.specs.declared.title.Title.{Title}
use Rattle.verdict_book.specs.Titles.{lines_in}

-- the reader's own verdict on the command behind so many jobs; at line 0 memory ended before the first command was begun
abbrev pub fault_outcome : ℕ → Place → Verdict → Outcome
fault_outcome count place verdict.Memory =
    if place.line == 0 then Stopped 0 nowhere verdict.Memory else Stopped (count + 1) place verdict.Memory
fault_outcome count place v = Stopped (count + 1) place v

-- stands for the outcome of a history that isn't finished: none of its jobs is at fault, and it has no end, or one that only
-- a job at fault makes
abbrev pub unfinished : ℕ → Outcome
unfinished count = Unread (count + 1) nowhere

-- the outcome by the end behind so many jobs, where none of them is at fault; a finished history then has one of the first four
abbrev pub end_outcome : ℕ → Option End → Outcome
end_outcome count (Some end.Whole) = Accepted count
end_outcome count (Some (end.Unread place)) = Unread (count + 1) place
end_outcome count (Some (end.Unopened name)) = Unopened name
end_outcome count (Some (end.Fault place v)) = fault_outcome count place v
end_outcome count (Some end.Stopped) = unfinished count
end_outcome count None = unfinished count

-- the place of the job of this number
abbrev pub place_at : List Title → ℕ → Place
place_at titles n = slice_index_or (map (λ (t : Title). t.place) titles) (n - 1) nowhere

-- the report of jobs with these titles, with this first fault, if there is one, and this end
abbrev pub report_with : List Title → Option (ℕ × Verdict) → Option End → FileReport
report_with titles (Some f) e = record { lines = lines_in (take (f.0 - 1) titles); outcome = Stopped f.0 (place_at titles f.0) f.1 }
report_with titles None e = record { lines = lines_in titles; outcome = end_outcome (length titles) e }

-- the first fault of these events, if there is one
abbrev pub IsFirst : List Event → Option (ℕ × Verdict) → Type 0
IsFirst es None = list_any is_fault es ≡ false
IsFirst es (Some f) = IsFirstFault es f.0 f.1

-- the report of a history whose jobs have these titles: that by its first fault, if there is one, and its end
abbrev pub IsReportOf : List Title → List Event → FileReport → Type 0
IsReportOf titles es report = (f : Option (ℕ × Verdict)) × IsFirst es f × (report ≡ report_with titles f (end_of es))

-- the command behind so many jobs, where the reader gave it its verdict itself
abbrev pub fault_of_end : ℕ → Option End → Option (ℕ × Verdict)
fault_of_end count (Some (end.Fault place v)) = Some (count + 1, v)
fault_of_end count _ = None

-- the reader ended at no verdict: the input was read to its end, or up to a failed read or opening
abbrev pub EndsAtNoVerdict : Option End → Type 0
EndsAtNoVerdict (Some end.Whole) = Unit {0}
EndsAtNoVerdict (Some (end.Unread place)) = Unit {0}
EndsAtNoVerdict (Some (end.Unopened name)) = Unit {0}
EndsAtNoVerdict (Some (end.Fault place v)) = ⊥
EndsAtNoVerdict (Some end.Stopped) = ⊥
EndsAtNoVerdict None = ⊥

-- neither a job nor the reader's end is at fault
abbrev pub IsWithoutFault : List Event → Type 0
IsWithoutFault es = (list_any is_fault es ≡ false) × EndsAtNoVerdict (end_of es)
