use Rattle.std.proofs.Common.{◌≡◌, ◌+◌, ◌++◌, length}
use Rattle.prune_theory.specs.Reaching.{places_from}
use Rattle.prune_theory.proofs.resting.places.Given as goal

abbrev pub invariant-loop-marked : goal.invariant-loop-marked
invariant-loop-marked l = record {
  places : l.places ++ places_from l.place l.rest ≡ places_from 0 l.fn.marks;
  number : l.place + length l.rest ≡ length l.fn.marks;
}

abbrev pub decreases-loop-marked : goal.decreases-loop-marked
decreases-loop-marked l = length l.rest
