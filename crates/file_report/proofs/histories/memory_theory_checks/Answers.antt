use Rattle.file_report.proofs.Examples.{memory_checks}
use Rattle.file_report.proofs.histories.memory_theory_checks.Goals as goal

pub returns : goal.returns
returns c = memory_checks
