use Rattle.std.proofs.Common.{◌≡◌, drop}
use Rattle.dk_model.specs.Shapes.{bare_variables}
use Rattle.pattern_compile.specs.Patterns.{plain_patterns}
use Rattle.pattern_compile.proofs.Variables.{behind}
use Rattle.pattern_compile.proofs.pattern.bare_variables.Given as goal

abbrev pub invariant-loop-pattern : goal.invariant-loop-pattern
invariant-loop-pattern l =
    bare_variables (plain_patterns l.patterns)
    ≡ behind l.variables (bare_variables (plain_patterns (drop l.pattern-index l.patterns)))
