use Rattle.signature_log.specs.Versions.{entries_of}
use Rattle.file_check.proofs.job.Worker.query.Goals as goal

pub query_stored-requires-clause-serves : goal.query_stored-requires-clause-serves
query_stored-requires-clause-serves c = c.clear.ensures.serves (entries_of c.args.version.now)
