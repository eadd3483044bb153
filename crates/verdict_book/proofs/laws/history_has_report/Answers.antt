use Rattle.verdict_book.proofs.Exists.{has_report}
use Rattle.verdict_book.proofs.laws.history_has_report.Goals as goal

pub returns : goal.returns
returns c = has_report
