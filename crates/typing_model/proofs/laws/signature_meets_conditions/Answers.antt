use Rattle.typing_model.proofs.Formed.{formed_numbered, formed_plain}
use Rattle.typing_model.proofs.laws.signature_meets_conditions.Goals as goal

pub returns-clause-numbered : goal.returns-clause-numbered
returns-clause-numbered c = λ S formed. formed_numbered S formed

pub returns-clause-plain : goal.returns-clause-plain
returns-clause-plain c = λ S formed. formed_plain S formed
