use Rattle.std.proofs.Common.{◌≡◌, map, take}
use Rattle.dk_model.specs.Signatures.{pattern as plain_pattern}
use Rattle.dk_model.specs.Shapes.{erased_pattern}
use Rattle.pattern_compile.proofs.erase.+erasing.Given as goal

abbrev pub invariant-erased_patterns-loop-pattern : goal.invariant-erased_patterns-loop-pattern
invariant-erased_patterns-loop-pattern l =
    map plain_pattern l.erased ≡ map erased_pattern (map plain_pattern (take l.pattern-index l.patterns))
