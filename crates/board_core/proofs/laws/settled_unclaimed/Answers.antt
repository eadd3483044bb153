use Rattle.board_core.proofs.Lawful.{settled_free}
use Rattle.board_core.proofs.laws.settled_unclaimed.Goals as goal

pub returns : goal.returns
returns c = settled_free
