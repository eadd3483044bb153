use Rattle.std.proofs.Common.{◌≡◌, ◌++◌, length}
use Rattle.prune_file.specs.Commands.{AllBelow, at_places}
use Rattle.prune_file.proofs.pruning.spans_at.Given as goal

abbrev pub invariant-loop-place : goal.invariant-loop-place
invariant-loop-place l = record {
  some : l.some.items ++ at_places l.spans l.rest ≡ at_places l.spans l.places;
  below : AllBelow (length l.spans) l.rest;
}

abbrev pub decreases-loop-place : goal.decreases-loop-place
decreases-loop-place l = length l.rest
