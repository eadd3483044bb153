use Rattle.std.proofs.Common.{◌≡◌}
use Rattle.dk_model.specs.Scoping.{plain_left}
use Rattle.dk_model.specs.Shapes.{left_head}
use Rattle.prune_theory.proofs.symbols.head_of.Given as goal

abbrev pub invariant-loop-head : goal.invariant-loop-head
invariant-loop-head l = left_head (plain_left l.head) ≡ left_head (plain_left l.fn.left)
