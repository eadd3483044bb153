use Rattle.prune_theory.proofs.Reached.{leads_end, none_of}
use Rattle.prune_theory.proofs.resting.reach_all.Goals as goal

pub returns : goal.returns
returns c = leads_end c.loop-place.marks.items c.loop-place.waiting.items c.loop-place.rest.now c.args.marks.now.items c.args.waiting.now.items c.args.places.now (none_of c.loop-place.rest.now c.in_default.ensures.cases) c.loop-place.invariant.leads
