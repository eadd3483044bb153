use Rattle.std.proofs.Common.{rules}
use Rattle.ticket_slot.proofs.Events.{adds}
use Rattle.ticket_slot.proofs.slot.Slot.add_as.Goals as goal

pub fetch_add-requires : goal.fetch_add-requires
fetch_add-requires g c = let r = c.requires in (
  search rules,
  search rules,
  adds g.V.Kept.events g.V.Kept.items g.V.Kept.lawful _ _ _ _ _ r.turn.0 r.room (rw (r.picked.0, r.picked.1) r.lawful) (rw r.picked.0 r.event) (rw r.picked.1 r.list),
)
