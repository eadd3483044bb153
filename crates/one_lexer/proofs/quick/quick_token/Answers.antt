use Rattle.one_lexer.proofs.Shorts.{comes_if, near_on}
use Rattle.one_lexer.proofs.quick.quick_token.Goals as goal

pub next_token-requires-clause-near : goal.next_token-requires-clause-near
next_token-requires-clause-near c =
    near_on c.args.limits c.args.at.command c.command_begin.result c.args.at.here.offset c.over_blanks-left.result.0.offset c.bound_of-last.result.0 c.command_begin.ensures c.bound_of-last.ensures.last c.over_blanks-left.ensures.onward

pub returns : goal.returns
returns c =
    comes_if c.args.limits c.args.at c.over_blanks-left.result.0 c.args.bytes.now c.split_at.result.1.now c.command_begin.result c.bound_of-last.result.0 c.over_blanks-left.result.1 c.next_token.result
    c.command_begin.ensures c.bound_of-last.ensures.last c.over_blanks-left.ensures.within c.split_at.ensures.back c.over_blanks-left.ensures.goes_over c.next_token.ensures
