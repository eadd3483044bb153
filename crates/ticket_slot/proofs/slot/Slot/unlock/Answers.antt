use Rattle.std.proofs.Common.{rules, sym, ap, ◌∙◌, ◌∷◌, Some}
use Rattle.atomic_table.specs.Table.{rest}
use Rattle.ticket_slot.proofs.Events.{passes}
use Rattle.ticket_slot.proofs.slot.Slot.unlock.Goals as goal

pub fetch_add-requires : goal.fetch_add-requires
fetch_add-requires g c = let m = c.exchange-empty.ensures.3 in let r = c.requires in (
  search rules,
  search rules,
  passes g.V.Kept.events g.V.Kept.items g.V.Kept.lawful _ _ _ c.args.value (ap (λ m. m.1) m ∙ ap (λ cs. (0, Some c.args.value) ∷ rest cs) r.turn.1) (ap (λ m. m.0.turn) m ∙ r.turn.0)
      (r.events ∙ sym (ap (λ m. m.0.seen) m)) (r.items ∙ sym (ap (λ m. m.0.known) m)),
)
