use Rattle.std.proofs.Common.{refl}
use Rattle.told_steps.proofs.Steps.{met_by}
use Rattle.told_steps.proofs.meeting.Meeting.into_join.Goals as goal

pub returns : goal.returns
returns c = record { meets = met_by c.args.self (record { first = c.args.self.first; second = c.args.self.second }) refl refl }
