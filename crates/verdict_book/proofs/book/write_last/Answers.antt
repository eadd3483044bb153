use Rattle.dk_io.proofs.Gather.{wrote_cut, wrote_whole}
use Rattle.verdict_book.proofs.book.write_last.Goals as goal

pub returns-in-Ok-clause-wrote : goal.returns-in-Ok-clause-wrote
returns-in-Ok-clause-wrote g c = wrote_whole c.new-lines.ensures c.in-Ok.ensures.put c.flush.ensures.wrote

pub returns-in-Err-clause-wrote : goal.returns-in-Err-clause-wrote
returns-in-Err-clause-wrote g c = wrote_cut c.new-lines.ensures c.in-Err.ensures.put
