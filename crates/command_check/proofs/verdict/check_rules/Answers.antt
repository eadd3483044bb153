use Rattle.std.proofs.Common.{◌∙◌, ap, map, sym as flip}
use Rattle.std.specs.Prelude.{Ok}
use Rattle.dk_model.specs.Signatures.{plain_rule}
use Rattle.signature_log.specs.Versions.{entries_of}
use Rattle.command_check.specs.Given.{command_shapes}
use Rattle.command_check.proofs.Verdicts.{shapes_typed}
use Rattle.command_check.proofs.verdict.check_rules.Goals as goal

pub returns-clause-gives : goal.returns-clause-gives
returns-clause-gives g c =
    let S = entries_of c.args.version.now in
    shapes_typed S (command_shapes S c.args.rules.now) (map plain_rule c.as_slice.result.now) c.args.left.now c.type_rules.result c.type_rules.new.left
    (c.in_ok-shapes.ensures ∙ ap (λ ss. Ok (map plain_rule ss)) (flip c.as_slice.ensures)) c.type_rules.ensures.gives
