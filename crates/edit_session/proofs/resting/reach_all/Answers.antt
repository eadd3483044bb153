use Rattle.prune_theory.proofs.Reached.{none_of}
use Rattle.edit_session.proofs.Searching.{leads_end}
use Rattle.edit_session.proofs.resting.reach_all.Goals as goal

pub returns : goal.returns
returns c = leads_end c.args.mark c.loop-place.marks.items c.loop-place.reached.items c.loop-place.rest.now c.args.marks.now.items c.args.reached.now.items c.args.places.now
    (none_of c.loop-place.rest.now c.in_default.ensures.cases) c.loop-place.invariant
