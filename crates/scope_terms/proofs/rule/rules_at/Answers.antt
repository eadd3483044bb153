use Rattle.scope_terms.specs.Answers.{IsFaultOf}
use Rattle.scope_terms.specs.Meanings.{rules_sense}
use Rattle.scope_terms.specs.Names.{reading}
use Rattle.scope_terms.specs.Reading.{own_names}
use Rattle.scope_terms.proofs.Contexts.{rules_fault}
use Rattle.scope_terms.proofs.Stages.{handed_on}
use Rattle.scope_terms.proofs.rule.rules_at.Goals as goal

pub returns-in_err-rule-clause-refused : goal.returns-in_err-rule-clause-refused
returns-in_err-rule-clause-refused c =
    let names = reading c.args.names.now in
    let fault = c.in_err-rule.field-0.0 in
    handed_on c.from_residual.result fault (IsFaultOf (rules_sense names c.args.rules.now))
    (rules_fault names.symbols (own_names names) c.args.rules.now c.loop-rule.rule-index c.rule-item.result c.loop-rule-test.true c.rule-item.is
    _ c.loop-rule.scoped fault c.loop-rule.invariant c.in_err-rule.ensures.refused) c.from_residual.ensures.1
