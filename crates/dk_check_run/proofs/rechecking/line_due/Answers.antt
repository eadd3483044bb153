use Rattle.std.proofs.Common.{arith}
use Rattle.dk_check_run.proofs.LinesDue.{line_due_few, line_due_some}
use Rattle.dk_check_run.proofs.rechecking.line_due.Goals as goal

pub overflow_add-line : goal.overflow_add-line
overflow_add-line c =
    let few = line_due_few c.args.bytes.now in
    let some = line_due_some c.loop-byte.rest.now in
    omega (arith, few, some, c.loop-byte.invariant, c.requires)
