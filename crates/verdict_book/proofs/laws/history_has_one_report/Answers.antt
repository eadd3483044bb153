use Rattle.verdict_book.proofs.Exists.{one_report}
use Rattle.verdict_book.proofs.laws.history_has_one_report.Goals as goal

pub returns : goal.returns
returns c = one_report
