use Rattle.dk_io.proofs.Gather.{gathers_then, gathers_stop}
use Rattle.verdict_book.specs.Report.{last_line}
use Rattle.verdict_book.proofs.book.put_lines.Goals as goal

pub returns-in-Ok-clause-put : goal.returns-in-Ok-clause-put
returns-in-Ok-clause-put g c = gathers_then c.in-Ok.ensures.put c.put_last.ensures.put

pub returns-in-Err-clause-put : goal.returns-in-Err-clause-put
returns-in-Err-clause-put g c = gathers_stop (last_line c.args.outcome.now c.args.style.now.budget c.args.style.now.folder.now) c.in-Err.ensures.put
