use Rattle.std.proofs.Common.{sym, ap, ◌∙◌}
use mathlib.Core.Option.{some, some-injective}
use Rattle.ticket_slot.proofs.Ends.{gives_back, moved}
use Rattle.ticket_slot.proofs.slot.Slot.close.Goals as goal

pub unreachable-requires : goal.unreachable-requires
unreachable-requires g c = let r = c.requires in
    let t = gives_back g.V.Kept.events g.V.Kept.items g.V.Kept.lawful _ _ _ _ r.reader r.free.0 r.all_joined c.close_with-closed.ensures.values.2 in
    c.in_default.not-Some t.0 (some-injective _ _ (sym c.take.ensures.value ∙ t.1))

pub returns : goal.returns
returns g c = let r = c.requires in
    let t = gives_back g.V.Kept.events g.V.Kept.items g.V.Kept.lawful _ _ _ _ r.reader r.free.0 r.all_joined c.close_with-closed.ensures.values.2 in
    let e = some-injective _ _ (sym t.1 ∙ (c.take.ensures.value ∙ ap some c.in-Some.is)) in
    let m = moved g.V.Kept.events g.V.Kept.items g.V.Kept.lawful c.args.pass.me.0 _ _ e t.2 in
    record { lawful = m.legal; list = m.list; reader = m.reader; ended = m.ended; each_once = m.each_once; no_others = m.no_others }
