use Rattle.split_check.proofs.Sending.{bound_types_sent}
use Rattle.split_check.proofs.context.sent_context.Goals as goal

pub returns-clause-bound : goal.returns-clause-bound
returns-clause-bound g c = bound_types_sent g.R.Reducer.denotes c.args.r.now c.args.context.now (record { rule_vars = c.in_ok-rule_vars.rule_vars; bound = c.in_ok-bound.bound }) c.in_ok-bound.ensures
