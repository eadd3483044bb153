use Rattle.std.proofs.Common.{◌+◌, ◌∙◌, refl, ap, map, sym as flip, subst as along}
use Rattle.dk_model.specs.Scoping.{plain_command}
use Rattle.signature_log.specs.Versions.{entries_of}
use Rattle.recheck_theory.proofs.Turns.{next_command, no_command}
use Rattle.certify_theory.specs.declared.fault.CertifyFault.{CertifyFault}
use Rattle.certify_theory.specs.Putting.{StopsBy}
use Rattle.certify_theory.proofs.SoFar.{none_so_far, stops_first, fails_first, all_put, stops, goes_on, fails, of_listed}
use Rattle.certify_theory.proofs.theory.put_parts.Goals as goal

pub returns-in-Err-clause-fault : goal.returns-in-Err-clause-fault
returns-in-Err-clause-fault g c = fails_first (map plain_command c.args.commands.now) c.in-Err.ensures.put

pub returns-in_default-clause-fault : goal.returns-in_default-clause-fault
returns-in_default-clause-fault g c = stops_first (map plain_command c.args.commands.now) c.in-Ok.ensures.put

pub loop-done-init : goal.loop-done-init
loop-done-init g c = record {
  put = none_so_far c.args.budget (entries_of c.in-Ok-empty.version) (map plain_command c.args.commands.now) (ap entries_of c.in-Ok-empty.ensures) c.in-Ok.ensures.put;
  faults = c.in-Ok.ensures.cause.stands;
}

pub returns-in-Err-put_part-clause-fault : goal.returns-in-Err-put_part-clause-fault
returns-in-Err-put_part-clause-fault g c = fails c.loop-done.invariant.put
    (next_command c.args.commands.now c.loop-done.done c.index-commands-done.result c.loop-done-test.true c.index-commands-done.is)
    (c.loop-done.done + 1) refl (of_listed c.in-Ok-certify_next.items c.as_slice.result.now c.in-Ok-certify_next.ensures.next c.as_slice.ensures) c.in-Err-put_part.ensures.put

pub returns-in-Err-certify_next-clause-fault : goal.returns-in-Err-certify_next-clause-fault
returns-in-Err-certify_next-clause-fault g c =
    along (λ (f : CertifyFault). StopsBy c.args.budget (map plain_command c.args.commands.now) (g.K.Sink.taken c.args.sink.now) c.args.buffer.now (g.K.Sink.taken c.loop-done.sink) c.loop-done.buffer f)
    (flip c.fault_at.ensures)
    (stops c.loop-done.invariant.put
    (next_command c.args.commands.now c.loop-done.done c.index-commands-done.result c.loop-done-test.true c.index-commands-done.is)
    (c.loop-done.done + 1) refl c.in-Err-certify_next.fault c.in-Err-certify_next.ensures.fault)

pub loop-done-preserved : goal.loop-done-preserved
loop-done-preserved g c = record {
  put = goes_on c.loop-done.invariant.put
      (next_command c.args.commands.now c.loop-done.done c.index-commands-done.result c.loop-done-test.true c.index-commands-done.is)
      (c.loop-done.done + 1) refl (of_listed c.in-Ok-certify_next.items c.as_slice.result.now c.in-Ok-certify_next.ensures.next c.as_slice.ensures)
      c.in-Ok-put_part.ensures.put c.in-Ok-put_part.ensures.short;
  faults = c.in-Ok-put_part.ensures.cause.stands ∙ c.loop-done.invariant.faults;
}

pub returns-clause-ok : goal.returns-clause-ok
returns-clause-ok g c = all_put c.loop-done.invariant.put (no_command c.args.commands.now c.loop-done.done c.loop-done-test.false)
