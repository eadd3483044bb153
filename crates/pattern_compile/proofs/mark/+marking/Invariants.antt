use Rattle.std.proofs.Common.{◌≡◌, drop}
use Rattle.dk_model.specs.Shapes.{patterns_variables}
use Rattle.pattern_compile.specs.Patterns.{plain_patterns}
use Rattle.pattern_compile.specs.Marks.{marked}
use Rattle.pattern_compile.proofs.mark.+marking.Given as goal

abbrev pub invariant-mark_patterns-loop-pattern : goal.invariant-mark_patterns-loop-pattern
invariant-mark_patterns-loop-pattern l =
    marked l.fn.marks (patterns_variables (plain_patterns l.patterns))
    ≡ marked l.marks (patterns_variables (plain_patterns (drop l.pattern-index l.patterns)))
