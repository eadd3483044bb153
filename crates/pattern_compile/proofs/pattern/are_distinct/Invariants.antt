use Rattle.std.proofs.Common.{◌≡◌, take, true}
use Rattle.dk_model.specs.Shapes.{are_distinct}
use Rattle.pattern_compile.proofs.pattern.are_distinct.Given as goal

abbrev pub invariant-loop-place : goal.invariant-loop-place
invariant-loop-place l = are_distinct (take l.place l.variables) ≡ true
