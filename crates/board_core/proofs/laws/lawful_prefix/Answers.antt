use Rattle.board_core.proofs.Lawful.{lawful_before}
use Rattle.board_core.proofs.laws.lawful_prefix.Goals as goal

pub returns : goal.returns
returns c = lawful_before
