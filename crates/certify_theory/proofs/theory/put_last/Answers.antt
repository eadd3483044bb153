use Rattle.certify_theory.proofs.Ends.{wrote_behind}
use Rattle.certify_theory.proofs.theory.put_last.Goals as goal

pub returns-in-Ok-clause-wrote : goal.returns-in-Ok-clause-wrote
returns-in-Ok-clause-wrote g c = wrote_behind c.flush.result c.in-Ok.ensures.put c.flush.ensures.wrote

pub returns-in-Err-clause-wrote : goal.returns-in-Err-clause-wrote
returns-in-Err-clause-wrote g c = record { whole = tt; front = c.in-Err.ensures.put.front }
