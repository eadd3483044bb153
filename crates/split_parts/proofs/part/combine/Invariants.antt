use Rattle.std.proofs.Common.{◌≡◌, ◌≤◌, length}
use Rattle.split_parts.specs.Parts.{combined, combined_behind}
use Rattle.split_parts.proofs.part.combine.Given as goal

abbrev pub invariant-steps : goal.invariant-steps
invariant-steps l = record {
  within : l.units ≤ l.budget;
  so_far : combined l.steps l.budget ≡ combined_behind l.units l.rest l.budget;
}

abbrev pub decreases-steps : goal.decreases-steps
decreases-steps l = length l.rest
