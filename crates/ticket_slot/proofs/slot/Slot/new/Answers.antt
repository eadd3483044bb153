use Rattle.std.proofs.Common.{rules}
use Rattle.ticket_slot.proofs.Passes.{starts}
use Rattle.ticket_slot.proofs.slot.Slot.new.Goals as goal

pub new-requires : goal.new-requires
new-requires g c = let r = c.requires in starts g.V.Kept.events g.V.Kept.items g.V.Kept.lawful _ c.args.value (search rules) r.no_events r.no_items r.lawful
