-- The walk boxes the term, and each turn leaves fewer.
use Rattle.std.proofs.Common.{◌≡◌, length}
use Rattle.shared_term.specs.Pools.{term}
use Rattle.shared_term.specs.Boxing.{AreThere, IsThere, boxes, left_to_box}
use Rattle.shared_term.proofs.boxing.boxed.Given as goal

abbrev pub invariant-loop-stage : goal.invariant-loop-stage
invariant-loop-stage l = record {
  there : AreThere (length l.nodes) l.waiting.items;
  at : IsThere (length l.nodes) l.stage;
  boxes : boxes l.nodes l.waiting.items l.stage ≡ term l.nodes l.fn.id;
}

abbrev pub decreases-loop-stage : goal.decreases-loop-stage
decreases-loop-stage l = left_to_box l.nodes l.waiting.items l.stage
