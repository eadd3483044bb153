use Rattle.dk_model.specs.Typing.{by_units}
use Rattle.typing_model.proofs.Rules.{units_reduce}
use Rattle.typing_model.proofs.RuleTyping.{rule_derives}
use Rattle.typing_model.proofs.Formed.{formed_numbered, formed_plain}
use Rattle.typing_model.proofs.laws.typed_rule_has_derivation.Goals as goal

pub returns-clause-signature : goal.returns-clause-signature
returns-clause-signature c = λ S formed. rule_derives S (by_units S) (units_reduce S (formed_numbered S formed)) (formed_plain S formed)

pub returns-clause-plain : goal.returns-clause-plain
returns-clause-plain c = λ S numbered plain. rule_derives S (by_units S) (units_reduce S numbered) plain
