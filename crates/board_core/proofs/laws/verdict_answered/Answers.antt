use Rattle.board_core.proofs.Lawful.{verdict_is_answered}
use Rattle.board_core.proofs.laws.verdict_answered.Goals as goal

pub returns : goal.returns
returns c = verdict_is_answered
