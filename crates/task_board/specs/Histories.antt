-- For callers: the history of a board, each event behind the number of its maker.
use Rattle.std.specs.Prelude.{◌≡◌, ℕ, Bool, List, map}
use Rattle.dk_model.specs.declared.code.Verdict.{Verdict}
use Rattle.board_core.specs.declared.event.Event.{Event}
use Rattle.board_core.specs.declared.event.Event.TheVariants.{Put, Claim, Answer, Seal}
use Rattle.board_core.specs.Machine.{IsLegal}

-- who makes an event: a worker, by its number, or the reader, whose number is 0
abbrev pub maker : Event → ℕ
maker (Put _) = 0
maker (Claim w _) = w
maker (Answer w _ _) = w
maker (Seal _) = 0

abbrev pub tagged : Event → ℕ × Event
tagged e = (maker e, e)

-- each of these events behind its maker's number
abbrev pub log_of : List Event → List (ℕ × Event)
log_of es = map tagged es

-- the events without their makers' numbers
abbrev pub events_in : List (ℕ × Event) → List Event
events_in log = map (λ x. x.1) log

-- the numbers are those of the makers, and the events are a legal history of these jobs
abbrev pub IsLegalLog : {J : Type 0} → (J → Verdict) → (J → Bool) → List (ℕ × Event) → List (J × Bool) → Type 0
IsLegalLog due early log jobs = (log ≡ log_of (events_in log)) × IsLegal due early jobs (events_in log)
