-- A cleared reducer serves any version.
use Rattle.signature_log.specs.Versions.{entries_of}
use Rattle.term_tests.proofs.evaluation.pool_tells.Goals as goal

pub tells-whole-requires : goal.tells-whole-requires
tells-whole-requires c = c.clear.ensures.serves (entries_of c.args.question.version.now)

pub ends-requires : goal.ends-requires
ends-requires c = c.clear-2.ensures.serves (entries_of c.args.question.version.now)
