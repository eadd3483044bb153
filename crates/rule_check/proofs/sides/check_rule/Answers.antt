use Rattle.std.proofs.Common.{ap}
use Rattle.dk_model.specs.Signatures.{plain_rule}
use Rattle.dk_model.specs.Typing.{next}
use Rattle.dk_model.specs.RuleTyping.{sides_fit}
use Rattle.signature_log.specs.Versions.{entries_of}
use Rattle.infer_check.proofs.Moving.{fit_is}
use Rattle.rule_check.proofs.sides.check_rule.Goals as goal

pub returns-clause-gives : goal.returns-clause-gives
returns-clause-gives g c =
    let S = entries_of c.args.version.now in
    let q = plain_rule c.args.rule.now in
    let given = c.in_ok-side.ensures.gives in
    fit_is c.check_sides.result c.check_sides.new.left (ap (λ x. next x (sides_fit S q.notes q.right)) given.1) (c.check_sides.ensures.gives given.0)
