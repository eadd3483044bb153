use Rattle.std.proofs.Common.{arith}
use Rattle.std.proofs.lemmas.Grind.{common_steps}
use Rattle.tree_evaluation.proofs.Lists.{more_unmoved}
use Rattle.tree_evaluation.proofs.matrix.columns_of.Goals as goal

pub loop-term-preserved : goal.loop-term-preserved
loop-term-preserved c = record {
  shown = grind (arith, common_steps);
  unmoved = more_unmoved c.loop-term.columns c.push_back.new.self c.in_ok-unmoved_column.field-0 c.in_ok-push_back.ensures.items
      c.loop-term.invariant.unmoved c.in_ok-unmoved_column.ensures.leads;
}
