use Rattle.std.proofs.Common.{arith}
use Rattle.one_lexer.proofs.Shorts.{run_short}
use Rattle.one_lexer.proofs.quick.run_before_dot.Goals as goal

pub returns : goal.returns
returns c = record {
  leaves = c.requires.is.leaves;
  comes = λ over before ts r.
      run_short c.args.start.limits c.args.start.at c.args.bytes.now c.args.run.now c.kind_of.result c.args.left c.args.start.last c.offset_at.result c.offset_at-2.result c.command_begin.result c.requires.near c.requires.is c.offset_at.ensures
      (omega (arith, c.if-offset_at-last.false)) c.offset_at-2.ensures c.command_begin.ensures c.kind_of.ensures over before ts r;
}
