use Rattle.board_core.proofs.Lawful.{verdict_from}
use Rattle.board_core.proofs.laws.verdict_from_answer.Goals as goal

pub returns : goal.returns
returns c = verdict_from
