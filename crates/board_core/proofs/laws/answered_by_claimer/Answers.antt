use Rattle.board_core.proofs.Lawful.{answered_claimed}
use Rattle.board_core.proofs.laws.answered_by_claimer.Goals as goal

pub returns : goal.returns
returns c = answered_claimed
