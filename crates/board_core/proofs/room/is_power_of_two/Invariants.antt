use Rattle.std.proofs.Common.{◌<◌, ◌↔◌}
use Rattle.board_core.specs.Kept.{IsPowerOfTwo}
use Rattle.board_core.proofs.room.is_power_of_two.Given as goal

abbrev pub invariant-loop-rest : goal.invariant-loop-rest
invariant-loop-rest l = record {
  some : 0 < l.rest;
  same : IsPowerOfTwo l.initial.rest ↔ IsPowerOfTwo l.rest;
}

abbrev pub decreases-loop-rest : goal.decreases-loop-rest
decreases-loop-rest l = l.rest
