use Rattle.dk_io.proofs.Gather.{wrote_whole}
use Rattle.replay_script.proofs.line.put_line.Goals as goal

pub returns-in-Ok-clause-wrote : goal.returns-in-Ok-clause-wrote
returns-in-Ok-clause-wrote g c = wrote_whole c.new-buffer.ensures c.in-Ok.ensures.put c.flush.ensures.wrote
