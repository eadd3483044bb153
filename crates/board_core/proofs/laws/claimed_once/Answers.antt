use Rattle.board_core.proofs.Lawful.{claimed_at_most_once}
use Rattle.board_core.proofs.laws.claimed_once.Goals as goal

pub returns : goal.returns
returns c = claimed_at_most_once
