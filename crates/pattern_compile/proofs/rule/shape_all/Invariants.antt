use Rattle.std.proofs.Common.{◌≡◌, map, drop}
use Rattle.dk_model.specs.Signatures.{plain_rule, plain_signature}
use Rattle.dk_model.specs.Scoping.{plain_scoped_rule}
use Rattle.dk_model.specs.Shapes.{shapes_of}
use Rattle.pattern_compile.proofs.Commands.{behind}
use Rattle.pattern_compile.proofs.rule.shape_all.Given as goal

abbrev pub invariant-loop-rule : goal.invariant-loop-rule
invariant-loop-rule l =
    shapes_of (plain_signature l.signature) (map plain_scoped_rule l.rules)
    ≡ behind (map plain_rule l.shapes) (shapes_of (plain_signature l.signature) (map plain_scoped_rule (drop l.rule-index l.rules)))
