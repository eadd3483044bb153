use denote.Param.Send.{sendable}
use Rattle.std.proofs.Crossing.{crosses}
use Rattle.signature_log.specs.Versions.{entries_of}
use Rattle.split_check.proofs.Pools.{reducer_send}
use Rattle.file_report.specs.Jobs.{due_on}
use Rattle.file_check.specs.Jobs.{job_of}
use Rattle.file_check.proofs.Preparing.{verdict_or_memory}
use Rattle.file_check.proofs.job.Worker.check_split.Goals as goal

pub returns : goal.returns
returns g c = verdict_or_memory (due_on (job_of c.args.job.now)) c.check_split.result c.check_split.ensures.due

pub check_split-requires-send-R : goal.check_split-requires-send-R
check_split-requires-send-R g c κs within = let a = reducer_send in search (sendable, crosses) depth 40 fits 20000

pub check_split-requires-after_bounds : goal.check_split-requires-after_bounds
check_split-requires-after_bounds g c κs within = c.clear.ensures.serves (entries_of c.args.job.now.version)
