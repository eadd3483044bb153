use Rattle.rule_match.proofs.Capturing.{captured_itself, none_listed}
use Rattle.rule_match.proofs.row.captured.Goals as goal

pub returns-then-is_empty-clause-captures : goal.returns-then-is_empty-clause-captures
returns-then-is_empty-clause-captures c = captured_itself c.args.pool.now c.args.part c.args.depth c.args.listed.now c.requires c.if-depth-eq0.true
    (none_listed c.args.listed.now c.is_empty.result c.is_empty.ensures c.if-is_empty.true)
