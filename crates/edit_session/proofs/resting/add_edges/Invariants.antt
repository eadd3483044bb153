use Rattle.std.proofs.Common.{◌≡◌, length}
use Rattle.prune_theory.specs.Reaching.{with_edges}
use Rattle.edit_session.proofs.resting.add_edges.Given as goal

abbrev pub invariant-loop-head : goal.invariant-loop-head
invariant-loop-head l = with_edges l.rules.items l.rest l.fn.place ≡ with_edges l.fn.rules.items l.fn.heads l.fn.place

abbrev pub decreases-loop-head : goal.decreases-loop-head
decreases-loop-head l = length l.rest
