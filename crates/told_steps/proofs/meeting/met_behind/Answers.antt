use Rattle.std.proofs.Common.{refl}
use Rattle.told_steps.proofs.Steps.{meet_behind}
use Rattle.told_steps.proofs.meeting.met_behind.Goals as goal

pub returns-clause-meets : goal.returns-clause-meets
returns-clause-meets c = meet_behind c.args.first c.args.second c.args.met (record { form = c.args.met.form; first = c.in_ok-ahead.ahead; second = c.in_ok-behind.behind })
    c.in_ok-ahead.ensures c.in_ok-behind.ensures refl
