use Rattle.signature_log.specs.Versions.{entries_of}
use Rattle.term_tests.proofs.checks.entered.Goals as goal

pub enter_command-requires : goal.enter_command-requires
enter_command-requires c = c.clear.ensures.serves (entries_of c.args.asked.version.now)
