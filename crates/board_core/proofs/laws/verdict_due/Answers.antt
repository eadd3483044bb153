use Rattle.board_core.proofs.Legal.{legal_verdict}
use Rattle.board_core.proofs.laws.verdict_due.Goals as goal

pub returns : goal.returns
returns g c = legal_verdict g.J.Checkable.due g.J.Checkable.early
