use Rattle.std.proofs.Common.{arith}
use Rattle.one_lexer.proofs.Shorts.{token_short}
use Rattle.one_lexer.proofs.quick.token.Goals as goal

pub returns : goal.returns
returns c = record {
  leaves = c.requires.is.leaves;
  comes = λ over before ts r.
      token_short c.args.start.limits c.args.start.at c.args.bytes.now c.args.text.now c.args.kind c.command_after.result c.args.left c.args.start.last c.offset_at-end.result c.command_begin.result c.requires.near c.requires.is c.offset_at-end.ensures
      (omega (arith, c.if-end-last.false)) c.command_begin.ensures c.command_after.ensures over before ts r;
}
