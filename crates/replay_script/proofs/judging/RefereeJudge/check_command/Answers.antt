use Rattle.std.proofs.Common.{subst, sym}
use Rattle.signature_log.specs.Versions.{entries_of}
use Rattle.conversion.specs.Reducers.{Serves}
use Rattle.replay_script.proofs.judging.RefereeJudge.check_command.Goals as goal

pub check_command-requires : goal.check_command-requires
check_command-requires c =
    let S = entries_of c.args.version.now in
    subst (Serves S) (sym c.deref_mut-2.ensures.value) (c.clear.ensures.serves S)
