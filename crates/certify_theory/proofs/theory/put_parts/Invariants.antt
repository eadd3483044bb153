use Rattle.std.proofs.Common.{◌≡◌, drop, map}
use Rattle.dk_model.specs.Scoping.{plain_command}
use Rattle.signature_log.specs.Versions.{entries_of}
use Rattle.certify_theory.proofs.SoFar.{SoFar}
use Rattle.certify_theory.proofs.theory.put_parts.Given as goal

abbrev pub invariant-loop-done : goal.invariant-loop-done
invariant-loop-done g l = record {
  put : SoFar l.budget (entries_of l.version) (map plain_command (drop l.done l.commands)) l.done (map plain_command l.commands) (g.K.Sink.taken l.fn.sink) l.fn.buffer (g.K.Sink.taken l.sink) l.buffer;
  faults : g.K.Sink.faults l.sink ≡ g.K.Sink.faults l.fn.sink;
}
