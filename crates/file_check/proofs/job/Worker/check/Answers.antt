use Rattle.signature_log.specs.Versions.{entries_of}
use Rattle.file_report.specs.Jobs.{due_on}
use Rattle.file_check.specs.Jobs.{job_of}
use Rattle.file_check.proofs.Preparing.{verdict_or_memory}
use Rattle.file_check.proofs.job.Worker.check.Goals as goal

pub returns : goal.returns
returns c = verdict_or_memory (due_on (job_of c.args.job.now)) c.check_stored.result c.check_stored.ensures.due

pub check_stored-requires : goal.check_stored-requires
check_stored-requires c = c.clear.ensures.serves (entries_of c.args.job.now.version)
