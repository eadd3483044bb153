-- What was marked so far stands in the list.
use Rattle.std.proofs.Common.{◌≡◌, length}
use Rattle.shared_term.specs.Storage.{IsSpelt, ArePlaced}
use Rattle.shared_term.proofs.storing.stored.Given as goal

abbrev pub invariant-loop-at : goal.invariant-loop-at
invariant-loop-at l = record {
  count : length l.places.items ≡ l.at;
  spelt : IsSpelt l.nodes.items;
  placed : ArePlaced l.pool l.nodes.items l.marks.items l.places.items;
}
