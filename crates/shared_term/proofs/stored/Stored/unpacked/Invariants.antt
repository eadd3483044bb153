-- The nodes so far stand in the list.
use Rattle.std.proofs.Common.{◌≡◌, take}
use Rattle.shared_term.proofs.stored.Stored.unpacked.Given as goal

abbrev pub invariant-loop-at : goal.invariant-loop-at
invariant-loop-at l = l.nodes.items ≡ take l.at l.self.0
