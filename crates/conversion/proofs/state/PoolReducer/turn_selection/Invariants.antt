use Rattle.std.proofs.Common.{◌≡◌, ◌≤◌, length}
use Rattle.shared_term.specs.Pools.{Extends}
use Rattle.signature_log.specs.Versions.{entries_of}
use Rattle.conversion.specs.Machine.{AreWithin}
use Rattle.conversion.specs.Pausing.{IsSelection, rewritten_by}
use Rattle.conversion.specs.Reducers.{Serves}
use Rattle.conversion.proofs.state.PoolReducer.turn_selection.Given as goal

abbrev pub invariant-loop-matcher : goal.invariant-loop-matcher
invariant-loop-matcher l = record {
  selection : IsSelection (entries_of l.version) (length l.self.pool) (record { symbol = l.fn.selection.symbol; matcher = l.matcher; answer = l.answer });
  due : rewritten_by (entries_of l.version) l.fn.self.pool l.fn.selection l.fn.stack.items l.fn.left
      ≡ rewritten_by (entries_of l.version) l.self.pool (record { symbol = l.fn.selection.symbol; matcher = l.matcher; answer = l.answer }) l.stack.items l.left;
  stack : AreWithin (length l.self.pool) l.stack.items;
  keeps : Extends l.fn.self.pool l.self.pool;
  serves : Serves (entries_of l.version) l.self;
  less : l.left ≤ l.fn.left;
}

abbrev pub decreases-loop-matcher : goal.decreases-loop-matcher
decreases-loop-matcher l = l.left
