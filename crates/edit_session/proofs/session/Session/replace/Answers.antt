use Rattle.std.proofs.Common.{◌-◌, ◌∙◌, ap, refl, subst, sym}
use Rattle.std.proofs.lemmas.List.Elements.{All-set}
use Rattle.std.specs.Prelude.{slice_set}
use Rattle.edit_session.specs.Held.{IsSlot, plain_slot}
use Rattle.edit_session.specs.Sessions.{new_slot}
use Rattle.edit_session.proofs.Edits.{session_replaced}
use Rattle.edit_session.proofs.session.Session.replace.Goals as goal

pub invariant_of-self : goal.invariant_of-self
invariant_of-self c = let s = c.self.inside in
    All-set (IsSlot s.limits s.budget) s.slots.items (c.args.k - 1) c.replace.new.dest (subst (IsSlot s.limits s.budget) (sym c.replace.ensures.after) (c.in_ok-slot.ensures.right s.budget)) c.self.invariant

pub returns-clause-ok : goal.returns-clause-ok
returns-clause-ok c = let s = c.self.inside in
    let slot = c.replace.new.dest in
    session_replaced s.limits s.budget s.slots.items (slice_set s.slots.items (c.args.k - 1) slot) (c.args.k - 1) c.args.self.now c.self.view_is slot (new_slot c.args.text.now) refl (ap plain_slot c.replace.ensures.after ∙ c.in_ok-slot.ensures.slot)
