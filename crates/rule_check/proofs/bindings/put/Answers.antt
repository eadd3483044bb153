use Rattle.std.proofs.Common.{rules, ◌≤◌, ◌<◌, ◌∙◌, ap, length}
use Rattle.rule_check.specs.Bindings.{with_term}
use Rattle.rule_check.proofs.Bound.{with_padded, with_set}
use Rattle.rule_check.proofs.bindings.put.Goals as goal

pub loop-terms-preserved : goal.loop-terms-preserved
loop-terms-preserved g c =
    let le : length c.loop-terms.terms.items ≤ c.args.number = search rules in
    ap (λ os. with_term os c.args.number c.args.term) c.in_ok-push.ensures.items ∙ with_padded c.loop-terms.terms.items c.args.number c.args.term le ∙ c.loop-terms.invariant

pub returns : goal.returns
returns g c =
    let lt : c.args.number < length c.loop-terms.terms.items = search rules in
    with_set c.loop-terms.terms.items c.args.number c.args.term lt ∙ c.loop-terms.invariant
