use Rattle.std.proofs.Common.{◌≡◌, map, drop}
use Rattle.dk_model.specs.Signatures.{plain_rule}
use Rattle.dk_model.specs.Scoping.{plain_scoped_rule}
use Rattle.dk_model.specs.Shapes.{shapes_of}
use Rattle.signature_log.specs.Versions.{entries_of}
use Rattle.tree_commands.proofs.Shaping.{behind}
use Rattle.tree_commands.proofs.shapes.shapes_of.Given as goal

abbrev pub invariant-loop-rule : goal.invariant-loop-rule
invariant-loop-rule l =
    shapes_of (entries_of l.version) (map plain_scoped_rule l.rules)
    ≡ behind (map plain_rule l.shapes) (shapes_of (entries_of l.version) (map plain_scoped_rule (drop l.rule-index l.rules)))
