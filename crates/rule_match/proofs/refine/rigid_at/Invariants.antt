use Rattle.std.proofs.Common.{◌≡◌, map, drop}
use Rattle.dk_model.specs.Matrix.{rigid_at}
use Rattle.rule_match.specs.Rows.{plain_cell}
use Rattle.rule_match.proofs.Refining.{from_place}
use Rattle.rule_match.proofs.refine.rigid_at.Given as goal

abbrev pub invariant-loop-at : goal.invariant-loop-at
invariant-loop-at l = from_place l.at (rigid_at (map plain_cell (drop l.at l.cells))) ≡ rigid_at (map plain_cell l.cells)
