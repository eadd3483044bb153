use Rattle.signature_log.specs.Versions.{entries_of}
use Rattle.file_check.proofs.job.Worker.infer.Goals as goal

pub infer_stored-requires-clause-serves : goal.infer_stored-requires-clause-serves
infer_stored-requires-clause-serves c = c.clear.ensures.serves (entries_of c.args.version.now)
