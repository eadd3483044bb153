use Rattle.dk_io.proofs.Gather.{wrote_whole, wrote_cut}
use Rattle.dk_make.proofs.theory.make.Goals as goal

pub returns-in-Ok-clause-wrote : goal.returns-in-Ok-clause-wrote
returns-in-Ok-clause-wrote g c = wrote_whole c.new-buffer.ensures c.in-Ok.ensures.put c.flush.ensures.wrote

pub returns-in-Err-clause-wrote : goal.returns-in-Err-clause-wrote
returns-in-Err-clause-wrote g c = wrote_cut c.new-buffer.ensures c.in-Err.ensures.put
