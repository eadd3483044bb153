use Rattle.board_core.proofs.Lawful.{one_task}
use Rattle.board_core.proofs.laws.one_task_each.Goals as goal

pub returns : goal.returns
returns c = one_task
