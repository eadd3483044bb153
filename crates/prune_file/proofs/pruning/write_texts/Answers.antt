use Rattle.dk_io.proofs.Gather.{wrote_whole}
use Rattle.prune_file.proofs.pruning.write_texts.Goals as goal

pub returns-in-Ok-clause-wrote : goal.returns-in-Ok-clause-wrote
returns-in-Ok-clause-wrote g c = wrote_whole c.new-buffer.ensures c.in-Ok.ensures.put c.flush.ensures.wrote
