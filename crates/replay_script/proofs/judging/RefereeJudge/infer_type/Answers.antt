use Rattle.std.proofs.Common.{subst, sym}
use Rattle.signature_log.specs.Versions.{entries_of}
use Rattle.conversion.specs.Reducers.{Serves}
use Rattle.replay_script.proofs.judging.RefereeJudge.infer_type.Goals as goal

pub infer_type-requires-clause-serves : goal.infer_type-requires-clause-serves
infer_type-requires-clause-serves c =
    let S = entries_of c.args.version.now in
    subst (Serves S) (sym c.deref_mut-2.ensures.value) (c.clear.ensures.serves S)
