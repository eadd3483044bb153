use Rattle.typing_model.proofs.Formed.{formed_plain}
use Rattle.checked_steps.proofs.Items.{checked_derives}
use Rattle.checked_steps.proofs.laws.checked_has_derivation.Goals as goal

pub returns-clause-signature : goal.returns-clause-signature
returns-clause-signature c = λ S formed. checked_derives S (formed_plain S formed)

pub returns-clause-plain : goal.returns-clause-plain
returns-clause-plain c = λ S plain. checked_derives S plain
