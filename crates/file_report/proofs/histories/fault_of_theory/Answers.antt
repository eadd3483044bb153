use Rattle.file_report.proofs.Law.{theory_faults}
use Rattle.file_report.proofs.histories.fault_of_theory.Goals as goal

pub returns : goal.returns
returns g c = theory_faults
