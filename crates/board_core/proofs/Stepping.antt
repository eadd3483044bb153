-- The events that a book's steps say.
use Rattle.std.proofs.Common.{◌≡◌, ℕ, zero, suc, ◌<◌, false, List, [], ◌∷◌, ◌++◌, length, get_or, sym, refl, ap, ◌∙◌, arith, Option, Some}
use Rattle.std.specs.Prelude.{slice_get}
use Rattle.std.specs.List.{list_any}
use Rattle.std.proofs.lemmas.List.{map-append}
use lib.ListN.{length-map}
use Rattle.board_core.specs.declared.event.End.{End}
use Rattle.board_core.specs.declared.event.Event.{Event}
use Rattle.board_core.specs.declared.history.Step.{Step}
use Rattle.board_core.specs.Events.{is_seal}
use Rattle.board_core.specs.Steps.{event_of, events_in}

pub count_steps : (end : Option End) (ss : List Step) → length (events_in end ss) ≡ length ss
count_steps end ss = length-map ss (event_of end)

-- one step more
pub events_snoc : (end : Option End) (ss : List Step) (s : Step) → events_in end (ss ++ s ∷ []) ≡ events_in end ss ++ event_of end s ∷ []
events_snoc end ss s = map-append (event_of end) ss (s ∷ [])

-- before the seal the steps say nothing of an end
pub same_events : (a b : Option End) (ss : List Step) → list_any is_seal (events_in a ss) ≡ false → events_in a ss ≡ events_in b ss
same_events a b [] h = refl
same_events a b ((Step.Put n) ∷ ss) h = ap (λ es. Event.Put n ∷ es) (same_events a b ss h)
same_events a b ((Step.Claim w n) ∷ ss) h = ap (λ es. Event.Claim w n ∷ es) (same_events a b ss h)
same_events a b ((Step.Answer w n v) ∷ ss) h = ap (λ es. Event.Answer w n v ∷ es) (same_events a b ss h)
same_events a b (Step.Seal ∷ ss) h = cc

-- the event that a step says
pub event_at : (end : Option End) (ss : List Step) (i : ℕ) (s : Step) → i < length ss → s ≡ get_or ss i s → slice_get (events_in end ss) i ≡ Some (event_of end s)
event_at end [] i s h e = absurd (omega arith)
event_at end (x ∷ ss) zero s h e = ap (λ y. Some (event_of end y)) (sym e)
event_at end (x ∷ ss) (suc i) s h e = event_at end ss i s (omega arith) e

-- the seal comes, and with it the end
pub sealed_events : (old : Option End) (end : End) (ss : List Step) → list_any is_seal (events_in old ss) ≡ false → events_in (Some end) (ss ++ Step.Seal ∷ []) ≡ events_in old ss ++ Event.Seal end ∷ []
sealed_events old end ss h = events_snoc (Some end) ss Step.Seal ∙ ap (λ es. es ++ Event.Seal end ∷ []) (sym (same_events old (Some end) ss h))
