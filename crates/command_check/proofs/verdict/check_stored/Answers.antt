use Rattle.std.proofs.Common.{ap}
use Rattle.dk_model.specs.Verdicts.{verdict}
use Rattle.signature_log.specs.Versions.{entries_of}
use Rattle.command_check.specs.Commands.{stored_command}
use Rattle.command_check.proofs.Verdicts.{derived}
use Rattle.command_check.proofs.verdict.check_stored.Goals as goal

pub returns-in-Ok-clause-derivation : goal.returns-in-Ok-clause-derivation
returns-in-Ok-clause-derivation g c = λ e formed.
    derived (entries_of c.args.version.now) (stored_command c.args.c.now) c.args.budget c.accepted_has_derivation.ensures.command (ap verdict c.in-Ok.ensures.gives) formed
