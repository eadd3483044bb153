-- The texts so far are folded.
use Rattle.std.proofs.Common.{◌≡◌}
use Rattle.edit_session.specs.Folding.{IsFolded}
use Rattle.edit_session.proofs.report.fold_slots.Given as goal

abbrev pub invariant-loop-at : goal.invariant-loop-at
invariant-loop-at g l = record {
  folded : IsFolded l.fn.limits l.fold.value.budget l.fn.slots.items l.at l.slots.items l.fold.value;
  budget : l.fold.value.budget ≡ l.budget;
}
