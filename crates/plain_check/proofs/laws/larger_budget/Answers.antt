use Rattle.dk_model.proofs.CountedTyping.{larger_budget}
use Rattle.plain_check.proofs.laws.larger_budget.Goals as goal

pub returns : goal.returns
returns c = larger_budget
