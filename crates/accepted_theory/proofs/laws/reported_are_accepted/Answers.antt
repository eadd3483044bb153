use Rattle.accepted_theory.proofs.Accepted.{reported_are_accepted}
use Rattle.accepted_theory.proofs.laws.reported_are_accepted.Goals as goal

pub returns : goal.returns
returns c = reported_are_accepted
