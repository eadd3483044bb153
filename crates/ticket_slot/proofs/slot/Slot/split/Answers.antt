use Rattle.std.proofs.Common.{rules}
use Rattle.ticket_slot.proofs.Passes.{splits}
use Rattle.ticket_slot.proofs.slot.Slot.split.Goals as goal

pub split_seat-requires : goal.split_seat-requires
split_seat-requires g c = (search rules, search rules, splits g.V.Kept.events g.V.Kept.items g.V.Kept.lawful _ _ c.requires.reader c.requires.room)
