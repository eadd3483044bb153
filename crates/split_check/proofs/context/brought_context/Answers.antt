use Rattle.std.proofs.Common.{◌∙◌}
use Rattle.infer_check.proofs.Contexts.{types_kept}
use Rattle.split_check.proofs.Sending.{bound_types_brought}
use Rattle.split_check.proofs.context.brought_context.Goals as goal

pub returns-clause-rule_vars : goal.returns-clause-rule_vars
returns-clause-rule_vars g c = types_kept {owns = g.R.Reducer.owns} {denotes = g.R.Reducer.denotes} c.brought.new.r c.brought-2.new.r c.in_ok-rule_vars.rule_vars c.in_ok-bound.ensures.keeps c.in_ok-rule_vars.ensures.own
    ∙ c.in_ok-rule_vars.ensures.same

pub returns-clause-bound : goal.returns-clause-bound
returns-clause-bound g c = bound_types_brought g.R.Reducer.denotes c.brought-2.new.r (record { rule_vars = c.in_ok-rule_vars.rule_vars; bound = c.in_ok-bound.bound }) c.args.context.now c.in_ok-bound.ensures.same
