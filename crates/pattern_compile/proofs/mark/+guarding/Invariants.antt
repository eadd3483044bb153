use Rattle.std.proofs.Common.{◌≡◌, drop}
use Rattle.pattern_compile.specs.Patterns.{plain_patterns}
use Rattle.pattern_compile.specs.Marks.{all_guards_are_marked}
use Rattle.pattern_compile.proofs.mark.+guarding.Given as goal

abbrev pub invariant-all_guards_are_marked-loop-pattern : goal.invariant-all_guards_are_marked-loop-pattern
invariant-all_guards_are_marked-loop-pattern l =
    all_guards_are_marked l.marks (plain_patterns l.patterns)
    ≡ all_guards_are_marked l.marks (plain_patterns (drop l.pattern-index l.patterns))
