use Rattle.typing_model.proofs.Rules.{units_reduce}
use Rattle.typing_model.proofs.Typing.{inferred_derives, checked_derives}
use Rattle.typing_model.proofs.RuleTyping.{rule_derives}
use Rattle.typing_model.proofs.Commands.{accepted_derives, accepted_declaration_derives}
use Rattle.typing_model.proofs.laws.any_evaluation_derives.Goals as goal

pub returns-clause-inference : goal.returns-clause-inference
returns-clause-inference g c = λ S E sound types context n m t T. inferred_derives S E sound types context t T n m

pub returns-clause-checking : goal.returns-clause-checking
returns-clause-checking g c = λ S E sound types context n m t T u. checked_derives S E sound types context t T n m u

pub returns-clause-command : goal.returns-clause-command
returns-clause-command g c = λ S E sound plain. accepted_derives S E sound plain

pub returns-clause-declaration : goal.returns-clause-declaration
returns-clause-declaration g c = λ S E sound. accepted_declaration_derives S E sound

pub returns-clause-rule : goal.returns-clause-rule
returns-clause-rule g c = λ S E sound plain. rule_derives S E sound plain

pub returns-clause-units : goal.returns-clause-units
returns-clause-units g c = λ S numbered. units_reduce S numbered
