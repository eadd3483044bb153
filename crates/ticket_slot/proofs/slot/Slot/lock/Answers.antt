use Rattle.std.proofs.Common.{rules, sym, ap, ◌∙◌, ◌∷◌, Some}
use Rattle.atomic_table.specs.Table.{rest}
use Rattle.ticket_slot.proofs.Tickets.{draws, looks}
use Rattle.ticket_slot.proofs.slot.Slot.lock.Goals as goal

pub fetch_add-ticket-requires : goal.fetch_add-ticket-requires
fetch_add-ticket-requires g c = let f = c.requires.free in (search rules, search rules, draws g.V.Kept.events g.V.Kept.items g.V.Kept.lawful _ _ _ f.0 f.1)

pub load-serving-requires : goal.load-serving-requires
load-serving-requires g c = let d = c.fetch_add-ticket.ensures.2 in let e = c.loop.invariant.1 ∙ d.2 in let f = c.requires.free in (
  search rules,
  search rules,
  looks g.V.Kept.events g.V.Kept.items g.V.Kept.lawful _ _ _ d.0 (ap (λ m. m.0.ticket) e) (ap (λ m. m.0.turn) e) (ap (λ m. m.0.live) e ∙ f.1) (ap (λ m. m.1) e ∙ f.2),
)

pub exchange-requires : goal.exchange-requires
exchange-requires g c = let d = c.fetch_add-ticket.ensures.2 in let e = c.loop.invariant.1 ∙ d.2 in
    let came = (c.load-serving.ensures.2 d.0 (ap (λ m. m.0.ticket) e)).0 (c.if-serving-ticket.true ∙ d.1) in let f = ap (λ m. m.1) came.1 in
    (search rules, (Some came.0, f ∙ sym (ap (λ cs. (0, Some came.0) ∷ rest cs) f)))
