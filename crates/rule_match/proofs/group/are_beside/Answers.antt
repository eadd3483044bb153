use Rattle.std.proofs.Common.{◌∙◌, subst, sym as flip}
use Rattle.std.proofs.lemmas.List.{take_all}
use Rattle.rule_match.specs.Groups.{AreBeside}
use Rattle.rule_match.proofs.Grouping.{on_side, beside_more}
use Rattle.rule_match.proofs.group.are_beside.Goals as goal

pub loop-key-preserved : goal.loop-key-preserved
loop-key-preserved c =
    beside_more c.args.pivot c.args.before c.args.keys.now c.loop-key.key-index _ c.loop-key-test.true c.loop-key.invariant (flip c.is_before.ensures ∙ on_side c.is_before.result c.args.before c.if-is_before-before.false)

pub returns : goal.returns
returns c = λ t. subst (AreBeside c.args.pivot c.args.before) (take_all c.loop-key.key-index c.args.keys.now c.loop-key-test.false) c.loop-key.invariant
