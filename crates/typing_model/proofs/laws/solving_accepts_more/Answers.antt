use Rattle.typing_model.proofs.Before.{stays_accepted}
use Rattle.typing_model.proofs.laws.solving_accepts_more.Goals as goal

pub returns : goal.returns
returns c = λ S. stays_accepted S
