use Rattle.recheck_theory.proofs.Parts.{answered}
use Rattle.recheck_theory.proofs.laws.certificates_are_rechecked.Goals as goal

pub returns : goal.returns
returns c = λ commands parts e s. answered e s
