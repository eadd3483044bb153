use Rattle.std.proofs.Common.{◌-◌}
use Rattle.edit_session.specs.Held.{IsSlot}
use Rattle.edit_session.specs.Sessions.{new_slot}
use Rattle.edit_session.proofs.Edits.{all_insert, session_inserted}
use Rattle.edit_session.proofs.session.Session.insert.Goals as goal

pub invariant_of-self-2 : goal.invariant_of-self-2
invariant_of-self-2 c = let s = c.self.inside in rw c.in-Ok.ensures.ok (all_insert (IsSlot s.limits s.budget) s.slots.items (c.args.k - 1) c.in_ok-slot.slot (c.in_ok-slot.ensures.right s.budget) c.self.invariant)

pub returns-clause-ok : goal.returns-clause-ok
returns-clause-ok c = let s = c.self.inside in
    session_inserted s.limits s.budget s.slots.items c.insert_at.new.slots.items (c.args.k - 1) c.args.self.now c.self.view_is c.in_ok-slot.slot (new_slot c.args.text.now) c.in-Ok.ensures.ok c.in_ok-slot.ensures.slot
