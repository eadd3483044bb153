use Rattle.std.proofs.Common.{◌≡◌, map}
use Rattle.dk_model.specs.Signatures.{plain_rule}
use Rattle.dk_model.specs.Shapes.{erased_rule}
use Rattle.pattern_compile.proofs.erase.erase_all.Given as goal

abbrev pub invariant-loop-rule : goal.invariant-loop-rule
invariant-loop-rule l = map plain_rule l.erased ≡ map erased_rule (map plain_rule l.yielded)
