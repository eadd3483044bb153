use Rattle.prune_theory.proofs.Below.{accepted_before}
use Rattle.prune_theory.proofs.laws.accepted_mention_before.Goals as goal

pub returns : goal.returns
returns c = λ budget U fs cs ns a. accepted_before a
