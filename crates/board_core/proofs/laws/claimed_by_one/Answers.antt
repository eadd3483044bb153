use Rattle.board_core.proofs.Lawful.{one_claimer}
use Rattle.board_core.proofs.laws.claimed_by_one.Goals as goal

pub returns : goal.returns
returns c = one_claimer
