use Rattle.std.proofs.Common.{Err, map, ap}
use Rattle.dk_model.specs.Scoping.{plain_command}
use Rattle.signature_log.specs.Versions.{entries_of}
use Rattle.recheck_theory.proofs.Turns.{next_command, none_so_far, goes_on, stops, ended, ended_not}
use Rattle.recheck_theory.proofs.theory.recheck_parts.Goals as goal

pub loop-done-init : goal.loop-done-init
loop-done-init c = none_so_far (entries_of c.in_ok-version.version) (map plain_command c.args.commands.now) c.args.bytes.now (ap entries_of c.in_ok-version.ensures)

pub loop-done-preserved : goal.loop-done-preserved
loop-done-preserved c = goes_on c.loop-done.invariant
    (next_command c.args.commands.now c.loop-done.done c.index-commands-done.result c.loop-done-test.true c.index-commands-done.is)
    c.in-Ok.ensures.ok c.in_ok-version-in-Ok.ensures

pub returns-in-Err-Rejected : goal.returns-in-Err-Rejected
returns-in-Err-Rejected c = stops c.loop-done.invariant
    (next_command c.args.commands.now c.loop-done.done c.index-commands-done.result c.loop-done-test.true c.index-commands-done.is)
    (c.in-Err-Rejected.ensures.rejected (ap Err c.in-Err-Rejected.field-0-is))

pub returns-then-eq : goal.returns-then-eq
returns-then-eq c = ended c.args.commands.now c.loop-done.done c.loop-done.rest.now c.loop-done.invariant c.loop-done-test.false c.loop-done.auto.done-end
    c.as_slice.ensures c.eq.ensures c.if-eq.true

pub returns : goal.returns
returns c = ended_not c.args.commands.now c.loop-done.done c.loop-done.rest.now c.loop-done.invariant c.loop-done-test.false c.loop-done.auto.done-end
    c.as_slice.ensures c.eq.ensures c.if-eq.false
