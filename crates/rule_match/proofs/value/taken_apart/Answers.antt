use Rattle.std.proofs.Common.{arith}
use Rattle.rule_match.proofs.Opening.{head_known, shown_arguments}
use Rattle.rule_match.proofs.value.taken_apart.Goals as goal

pub opened-requires-clause-arguments : goal.opened-requires-clause-arguments
opened-requires-clause-arguments c =
    shown_arguments c.args.pool.now c.args.value c.in_ok-head.head c.unwind.new.stack.items c.new-arguments.result.items c.in_ok-head.ensures.same c.new-arguments.ensures.items c.in_ok-head.ensures.head

pub returns-clause-key : goal.returns-clause-key
returns-clause-key c =
    c.key_of-key.ensures (head_known c.args.pool.now c.args.value c.in_ok-head.head c.unwind.new.stack.items c.new-arguments.result.items c.len.result
    c.in_ok-head.ensures.same c.new-arguments.ensures.items c.in_ok-head.ensures.head (omega (arith, c.len.ensures, c.unwind.new.stack.ok.0)))
