use Rattle.std.proofs.Common.{◌≡◌, length, arith}
use Rattle.one_lexer.proofs.Founds.{brace_past, met_within}
use Rattle.one_lexer.proofs.next.read_token.Goals as goal

pub returns-in-Some-clause-comes : goal.returns-in-Some-clause-comes
returns-in-Some-clause-comes c before ts r =
    let size = r.total in
    let total : c.offset_at-total.result ≡ length before = omega (arith, c.offset_at-total.ensures, size) in
    brace_past c.args.over c.args.front.settled c.args.limits before ts c.args.at.here c.args.at.command c.args.bytes.now c.args.front.late c.args.front.found c.in-Some.code c.command_begin-begin.result c.offset_at-total.result
    r (met_within (length c.args.bytes.now) c.args.front.found c.requires.token.0) c.requires.is c.in-Some.ensures.some c.command_begin-begin.ensures total
