use Rattle.rule_match.proofs.Opening.{argument_taken}
use Rattle.rule_match.proofs.value.argument_columns.Goals as goal

pub loop-argument-preserved : goal.loop-argument-preserved
loop-argument-preserved c = argument_taken c.args.depth c.loop-argument.stack.items c.pop.new.self.items c.in-Some.argument c.loop-argument.columns.items c.push.new.self.items _
    c.in-Some.ensures.items c.in_ok-push.ensures.items c.loop-argument.invariant
