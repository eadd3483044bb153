use Rattle.std.proofs.Common.{◌≡◌, ◌≤◌, ◌+◌, ◌*◌}
use Rattle.dk_model.specs.Signatures.{no_patterns}
use Rattle.dk_model.specs.Scoping.{plain_left}
use Rattle.dk_model.specs.Shapes.{left_patterns}
use Rattle.pattern_compile.proofs.Heads.{left_size, stacked}
use Rattle.pattern_compile.proofs.pattern.+patterns.Given as goal

abbrev pub decreases-applied : goal.decreases-applied
decreases-applied l = 3 * left_size (plain_left l.head.now)

abbrev pub decreases-pattern : goal.decreases-pattern
decreases-pattern l = 3 * left_size (plain_left l.left.now) + 2

abbrev pub decreases-patterns : goal.decreases-patterns
decreases-patterns l = 3 * left_size (plain_left l.left.now) + 1

abbrev pub invariant-patterns-loop-rest : goal.invariant-patterns-loop-rest
invariant-patterns-loop-rest l = record {
  same : left_patterns l.vars (plain_left l.left) no_patterns ≡ left_patterns l.vars (plain_left l.rest) (stacked l.found.items);
  smaller : left_size (plain_left l.rest) ≤ left_size (plain_left l.left);
}
