use Rattle.std.proofs.Common.{rules}
use Rattle.ticket_slot.proofs.Passes.{joins}
use Rattle.ticket_slot.proofs.slot.Slot.join.Goals as goal

pub join_seat-requires : goal.join_seat-requires
join_seat-requires g c = let r = c.requires in
    (search rules, search rules, search rules, search rules, joins g.V.Kept.events g.V.Kept.items g.V.Kept.lawful _ _ _ _ r.reader r.free.0 r.free.1)
