use Rattle.std.proofs.Common.{◌≤◌, ◌+◌, ◌*◌, length, vec_len}
use Rattle.dk_model.specs.Trees.{Tree}
use Rattle.dk_model.specs.Units.{Units}
use Rattle.shared_term.specs.Pools.{Extends}
use Rattle.signature_log.specs.Versions.{entries_of}
use Rattle.conversion.specs.Courses.{Comes}
use Rattle.conversion.specs.Machine.{AreWithin}
use Rattle.conversion.specs.Pausing.{ArePauses, Await}
use Rattle.conversion.specs.Reducers.{Serves}
use Rattle.conversion.specs.Turning.{IsDue, IsNext, next_weight}
use Rattle.conversion.proofs.state.PoolReducer.turns.Given as goal

abbrev pub invariant-loop-stack : goal.invariant-loop-stack
invariant-loop-stack l = record {
  goes : (whole : Units Tree) → Comes (entries_of l.version) l.fn.self.pool l.fn.course l.fn.left whole
      → (due : Units Tree) × Await (entries_of l.version) l.self.pool whole l.pauses.items due × IsDue (entries_of l.version) l.self.pool l.next l.stack.items l.left due;
  next : IsNext (entries_of l.version) (length l.self.pool) l.next;
  stack : AreWithin (length l.self.pool) l.stack.items;
  pauses : ArePauses (entries_of l.version) (length l.self.pool) l.pauses.items;
  keeps : Extends l.fn.self.pool l.self.pool;
  serves : Serves (entries_of l.version) l.self;
  less : l.left ≤ l.fn.left;
}

abbrev pub decreases-loop-stack : goal.decreases-loop-stack
decreases-loop-stack l = 8 * l.left + (2 * vec_len l.pauses + next_weight l.next)
