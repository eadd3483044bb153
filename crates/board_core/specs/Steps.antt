-- For proofs: what the steps of a book's history say.
use Rattle.std.specs.Prelude.{List, map, Option, Some, None}
use Rattle.board_core.specs.declared.event.End.{End}
use Rattle.board_core.specs.declared.event.End.TheVariants.{Whole}
use Rattle.board_core.specs.declared.event.Event.{Event}
use Rattle.board_core.specs.declared.history.Step.{Step}

-- how the book was sealed; it has no seal where there is no end
abbrev pub sealed_with : Option End → End
sealed_with (Some end) = end
sealed_with None = Whole

-- what a step says, in a book with this end
abbrev pub event_of : Option End → Step → Event
event_of end (Step.Put n) = Event.Put n
event_of end (Step.Claim w n) = Event.Claim w n
event_of end (Step.Answer w n v) = Event.Answer w n v
event_of end Step.Seal = Event.Seal (sealed_with end)

abbrev pub events_in : Option End → List Step → List Event
events_in end steps = map (event_of end) steps
