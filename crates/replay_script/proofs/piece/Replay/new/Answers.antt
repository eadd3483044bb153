use Rattle.std.proofs.Common.{refl}
use Rattle.replay_script.proofs.Taking.{before_first}
use Rattle.replay_script.proofs.piece.Replay.new.Goals as goal

pub returns-clause-after : goal.returns-clause-after
returns-clause-after c = before_first c.args.limits c.args.budget _ c.in_ok-new.ensures c.new-3.ensures.items refl refl
