use Rattle.std.proofs.Common.{arith}
use Rattle.one_lexer.proofs.Nexts.{blank_fails, blank_next}
use Rattle.one_lexer.proofs.next.read_blank.Goals as goal

pub returns-then-offset_at-last-clause-comes : goal.returns-then-offset_at-last-clause-comes
returns-then-offset_at-last-clause-comes c over before ts r =
    let size = r.total in
    rw c.bound_of-last.ensures.code (blank_fails over c.args.limits before c.args.bytes.now ts c.args.at.here c.args.at.command c.args.left r c.requires.is c.requires.leaves
    (omega (arith, c.bound_of-last.ensures.last, size, c.if-offset_at-last.true, c.offset_at.ensures)))

pub returns-clause-comes : goal.returns-clause-comes
returns-clause-comes c over before ts r =
    let size = r.total in
    rw c.place_at.ensures (blank_next over c.args.limits before c.args.bytes.now ts c.args.at.here c.args.at.command c.args.left r c.requires.is c.requires.leaves
    (omega (arith, c.bound_of-last.ensures.last, size, c.if-offset_at-last.false, c.offset_at.ensures)))
