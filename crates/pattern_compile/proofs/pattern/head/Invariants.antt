use Rattle.std.proofs.Common.{◌≡◌}
use Rattle.dk_model.specs.Scoping.{plain_left}
use Rattle.pattern_compile.specs.Patterns.{head_of}
use Rattle.pattern_compile.proofs.pattern.head.Given as goal

abbrev pub invariant-loop-rest : goal.invariant-loop-rest
invariant-loop-rest l = head_of (plain_left l.left) ≡ head_of (plain_left l.rest)
