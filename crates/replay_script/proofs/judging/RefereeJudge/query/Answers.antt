use Rattle.std.proofs.Common.{subst, sym}
use Rattle.signature_log.specs.Versions.{entries_of}
use Rattle.conversion.specs.Reducers.{Serves}
use Rattle.replay_script.proofs.judging.RefereeJudge.query.Goals as goal

pub query-requires-clause-serves : goal.query-requires-clause-serves
query-requires-clause-serves c =
    let S = entries_of c.args.version.now in
    subst (Serves S) (sym c.deref_mut-2.ensures.value) (c.clear.ensures.serves S)
