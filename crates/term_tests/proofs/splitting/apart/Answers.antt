use Rattle.signature_log.specs.Versions.{entries_of}
use denote.Param.Send.{sendable}
use Rattle.std.proofs.Crossing.{crosses}
use Rattle.split_check.proofs.Pools.{reducer_send}
use Rattle.term_tests.proofs.splitting.apart.Goals as goal

pub check_split-requires-send-R : goal.check_split-requires-send-R
check_split-requires-send-R g c κs within = let a = reducer_send in search (sendable, crosses) depth 40 fits 20000

pub check_split-requires-after_bounds : goal.check_split-requires-after_bounds
check_split-requires-after_bounds g c κs within = c.clear.ensures.serves (entries_of c.args.last.now.version)
