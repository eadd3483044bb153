use Rattle.accepted_theory.proofs.Again.{are_read, reads_accepted, told_accepted}
use Rattle.accepted_theory.proofs.laws.accepted_are_read.Goals as goal

pub returns-clause-outcome : goal.returns-clause-outcome
returns-clause-outcome c = are_read c.check_ends_as_read.ensures

pub returns-clause-reported : goal.returns-clause-reported
returns-clause-reported c = reads_accepted c.check_ends_as_read.ensures c.reported_are_accepted.ensures

pub returns-clause-told : goal.returns-clause-told
returns-clause-told c = told_accepted c.check_ends_as_read.ensures c.reported_are_accepted.ensures
