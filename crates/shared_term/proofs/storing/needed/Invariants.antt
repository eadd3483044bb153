-- From here on the parts of what is marked are marked.
use Rattle.std.proofs.Common.{◌≡◌, ◌+◌, ◌≤◌, length}
use Rattle.shared_term.specs.Storage.{IsNeeded, AreMarked}
use Rattle.shared_term.proofs.storing.needed.Given as goal

abbrev pub invariant-loop-at : goal.invariant-loop-at
invariant-loop-at l = record {
  count : length l.marks.items ≡ l.fn.id.0 + 1;
  below : l.at ≤ l.fn.id.0 + 1;
  root : IsNeeded l.marks.items l.fn.id.0;
  closed : AreMarked l.pool l.marks.items l.at;
}

abbrev pub decreases-loop-at : goal.decreases-loop-at
decreases-loop-at l = l.at
