use Rattle.checked_steps.proofs.Theories.{certified_derive}
use Rattle.checked_steps.proofs.laws.certified_have_derivations.Goals as goal

pub returns : goal.returns
returns c = λ commands parts e. certified_derive tt e
