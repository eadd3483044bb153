use Rattle.edit_session.proofs.Lines.{texts_are_commands}
use Rattle.edit_session.proofs.laws.texts_are_commands.Goals as goal

pub returns : goal.returns
returns c = texts_are_commands
