use Rattle.std.proofs.Common.{ap}
use Rattle.dk_model.specs.Scoping.{plain_command}
use Rattle.dk_model.specs.Verdicts.{verdict}
use Rattle.signature_log.specs.Versions.{entries_of}
use Rattle.command_check.proofs.Verdicts.{derived, numbered_derived}
use Rattle.command_check.proofs.verdict.check_command.Goals as goal

pub returns-in-Ok-clause-derivation : goal.returns-in-Ok-clause-derivation
returns-in-Ok-clause-derivation g c = λ e formed.
    derived (entries_of c.args.version.now) (plain_command c.args.c.now) c.args.budget c.accepted_has_derivation.ensures.command (ap verdict c.in-Ok.ensures.gives) formed

pub returns-in-Ok-clause-numbered : goal.returns-in-Ok-clause-numbered
returns-in-Ok-clause-numbered g c = λ e numbered plain.
    numbered_derived (entries_of c.args.version.now) (plain_command c.args.c.now) c.args.budget c.accepted_has_derivation.ensures.plain (ap verdict c.in-Ok.ensures.gives) numbered plain
