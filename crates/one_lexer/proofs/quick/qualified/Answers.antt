use Rattle.std.proofs.Common.{rules, ◌<◌, arith}
use Rattle.one_lexer.proofs.PlainRuns.{qualified_spelt, rest_within}
use Rattle.one_lexer.proofs.quick.qualified.Goals as goal

pub overflow_sub-bytes : goal.overflow_sub-bytes
overflow_sub-bytes c =
    let fewer = rest_within c.args.start.limits.name_bytes c.args.bytes.now c.args.rest.now c.requires.dot in
    omega (arith, fewer, c.behind_second-left.ensures.within)

pub token-requires-clause-is : goal.token-requires-clause-is
token-requires-clause-is c =
    let some : 0 < c.behind_second-left.result = search rules in
    qualified_spelt c.args.start.limits.name_bytes c.behind_second-left.result c.args.bytes.now c.args.rest.now c.split_at.result.0.now c.requires.dot c.requires.begins (c.behind_second-left.ensures.second some) some c.split_at.ensures.front
