use Rattle.std.proofs.Common.{[], ◌∷◌}
use Rattle.dk_io.proofs.Gather.{gathers_stop, gathers_then}
use Rattle.prune_file.proofs.pruning.put_text.Goals as goal

pub returns-in-Ok-clause-put : goal.returns-in-Ok-clause-put
returns-in-Ok-clause-put g c = gathers_then c.in-Ok.ensures.put c.put-in-Ok.ensures.put

pub returns-in-Err-clause-put : goal.returns-in-Err-clause-put
returns-in-Err-clause-put g c = gathers_stop (10 ∷ []) c.in-Err.ensures.put
