use Rattle.checked_steps.proofs.Theories.{accepted_certified}
use Rattle.checked_steps.proofs.laws.accepted_have_certificate.Goals as goal

pub returns : goal.returns
returns c = λ commands budget e. accepted_certified tt e
