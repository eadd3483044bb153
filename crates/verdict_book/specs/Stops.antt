-- For proofs: how a file may stop.
use Rattle.std.specs.Prelude.{◌≢◌, Option, Some, None}
use Rattle.dk_model.specs.declared.code.Verdict.{Verdict}
use Rattle.dk_model.specs.declared.code.Verdict.TheVariants as verdict
use Rattle.board_core.specs.declared.event.End.{End}
use Rattle.board_core.specs.declared.event.End.TheVariants as end
use Rattle.verdict_book.specs.declared.outcome.Outcome.{Outcome}
use Rattle.verdict_book.specs.declared.outcome.Outcome.TheVariants.{Accepted, Stopped, Unread, Unopened}

-- a verdict other than Accepted
abbrev pub IsFault : Verdict → Type 0
IsFault v = v ≢ verdict.Accepted

-- a file stops with a verdict other than Accepted
abbrev pub StopsAtFault : Outcome → Type 0
StopsAtFault (Accepted count) = Unit {0}
StopsAtFault (Stopped number place v) = IsFault v
StopsAtFault (Unread number place) = Unit {0}
StopsAtFault (Unopened name) = Unit {0}

-- the reader of a finished history ended by itself: at the end of the input, at a failed read or opening, or at its own verdict
abbrev pub EndsByItself : Option End → Type 0
EndsByItself (Some end.Whole) = Unit {0}
EndsByItself (Some (end.Unread place)) = Unit {0}
EndsByItself (Some (end.Unopened name)) = Unit {0}
EndsByItself (Some (end.Fault place v)) = IsFault v
EndsByItself (Some end.Stopped) = ⊥
EndsByItself None = ⊥
