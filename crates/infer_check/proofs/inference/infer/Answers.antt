use Rattle.signature_log.specs.Versions.{entries_of}
use Rattle.infer_check.proofs.Contexts.{context_kept}
use Rattle.infer_check.proofs.Walks.{ready}
use Rattle.infer_check.proofs.inference.infer.Goals as goal

pub infer_taken-requires-clause-ready : goal.infer_taken-requires-clause-ready
infer_taken-requires-clause-ready g c =
    ready c.copy.new.self c.args.walk.now (context_kept c.args.r.now c.copy.new.self c.args.walk.now.context c.in_ok-term.ensures.keeps c.requires.ready.context)
    (c.in_ok-term.ensures.serves (entries_of c.args.version.now) c.requires.ready.serving)
