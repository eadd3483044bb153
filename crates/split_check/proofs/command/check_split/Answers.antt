use Rattle.std.proofs.Common.{rules}
use Rattle.dk_model.specs.Answering.{IsVerdictOrMemory}
use Rattle.dk_model.specs.Verdicts.{verdict_of}
use Rattle.signature_log.specs.Versions.{entries_of}
use Rattle.command_check.specs.Commands.{stored_command}
use Rattle.command_check.proofs.Verdicts.{derived}
use Rattle.split_check.proofs.Commands.{accepted_due}
use Rattle.split_check.proofs.command.check_split.Goals as goal

pub returns-in-Some-body-clause-derivation : goal.returns-in-Some-body-clause-derivation
returns-in-Some-body-clause-derivation g c e formed =
    let S = entries_of c.args.crew.now.version.now in
    let d : IsVerdictOrMemory (verdict_of S (stored_command c.args.c.now) c.args.budget) c.check_declared.result = search rules in
    derived S (stored_command c.args.c.now) c.args.budget c.accepted_has_derivation.ensures.command (accepted_due (verdict_of S (stored_command c.args.c.now) c.args.budget) c.check_declared.result d e) formed
