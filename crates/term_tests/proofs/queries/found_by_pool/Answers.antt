use Rattle.signature_log.specs.Versions.{entries_of}
use Rattle.term_tests.proofs.queries.found_by_pool.Goals as goal

pub query-requires-clause-serves : goal.query-requires-clause-serves
query-requires-clause-serves c = c.clear.ensures.serves (entries_of c.args.asked.version.now)
