use Rattle.signature_log.specs.Versions.{entries_of}
use Rattle.term_tests.proofs.splitting.alone.Goals as goal

pub check_stored-requires : goal.check_stored-requires
check_stored-requires c = c.clear.ensures.serves (entries_of c.args.last.now.version)
