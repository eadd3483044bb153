use Rattle.dk_io.proofs.Gather.{gathers_then, gathers_stop}
use Rattle.dk_make.proofs.theory.put_theory.Goals as goal

pub returns-in-Ok-clause-put : goal.returns-in-Ok-clause-put
returns-in-Ok-clause-put g c = gathers_then c.in-Ok.ensures.put c.put_theorems.ensures.put

pub returns-in-Err-clause-put : goal.returns-in-Err-clause-put
returns-in-Err-clause-put g c = gathers_stop _ c.in-Err.ensures.put
