use Rattle.edit_session.proofs.Joined.{reports_from_forms}
use Rattle.edit_session.proofs.laws.reports_come_from_commands.Goals as goal

pub returns : goal.returns
returns c = reports_from_forms
