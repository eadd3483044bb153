-- What is still to be reached leads from here to what all of it leads to.
use Rattle.std.proofs.Common.{length}
use Rattle.prune_theory.specs.Reaching.{AllBelow, Leads}
use Rattle.prune_theory.proofs.resting.reach_all.Given as goal

abbrev pub invariant-loop-place : goal.invariant-loop-place
invariant-loop-place l = record {
  below : AllBelow (length l.marks.items) l.rest;
  leads : Leads l.marks.items l.waiting.items l.rest l.fn.marks.items l.fn.waiting.items l.fn.places;
}

abbrev pub decreases-loop-place : goal.decreases-loop-place
decreases-loop-place l = length l.rest
