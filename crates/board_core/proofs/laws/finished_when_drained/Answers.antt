use Rattle.board_core.proofs.Lawful.{finished}
use Rattle.board_core.proofs.laws.finished_when_drained.Goals as goal

pub returns : goal.returns
returns c = finished
