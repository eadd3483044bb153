use Rattle.file_report.proofs.Law.{theory_reports}
use Rattle.file_report.proofs.histories.report_of_theory.Goals as goal

pub returns : goal.returns
returns g c = theory_reports
