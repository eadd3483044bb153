use Rattle.board_core.proofs.Lawful.{answered_at_most_once}
use Rattle.board_core.proofs.laws.answered_once.Goals as goal

pub returns : goal.returns
returns c = answered_at_most_once
