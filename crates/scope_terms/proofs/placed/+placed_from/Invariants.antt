use Rattle.std.proofs.Common.{◌≤◌, ◌-◌, List, length}
use Rattle.dk_model.specs.Trees.{Tree}
use Rattle.shared_term.specs.Made.{stack}
use Rattle.scope_terms.specs.Scopes.{Binder}
use Rattle.scope_terms.specs.Standing.{Stands}
use Rattle.scope_terms.proofs.placed.+placed_from.Given as goal

abbrev pub decreases-placed_from : goal.decreases-placed_from
decreases-placed_from l = length l.term.now.operations - l.at

abbrev pub invariant-loop-operation : goal.invariant-loop-operation
invariant-loop-operation l = record {
  further : l.fn.at ≤ l.at;
  stands : (outside : List Binder) (below : List Tree) → Stands l.fn.scope l.fn.term outside below l.fn.at l.fn.bound (stack l.fn.making)
      → Stands l.fn.scope l.fn.term outside below l.at l.fn.bound (stack l.making);
}

abbrev pub decreases-loop-operation : goal.decreases-loop-operation
decreases-loop-operation l = length l.fn.term.operations - l.at
