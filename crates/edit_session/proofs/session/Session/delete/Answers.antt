use Rattle.std.proofs.Common.{◌-◌}
use Rattle.edit_session.specs.Held.{IsSlot}
use Rattle.edit_session.proofs.Edits.{all_remove, session_removed}
use Rattle.edit_session.proofs.session.Session.delete.Goals as goal

pub invariant_of-self : goal.invariant_of-self
invariant_of-self c = let s = c.self.inside in rw c.remove.ensures.items (all_remove (IsSlot s.limits s.budget) s.slots.items (c.args.k - 1) c.self.invariant)

pub returns-clause-ok : goal.returns-clause-ok
returns-clause-ok c = let s = c.self.inside in session_removed s.limits s.budget s.slots.items c.remove.new.self.items (c.args.k - 1) c.args.self.now c.self.view_is c.remove.ensures.items
