use Rattle.std.proofs.Common.{◌≡◌, ◌∙◌, length, arith}
use Rattle.signature_log.specs.Rows.{row_rules}
use Rattle.tree_terms.proofs.Lists.{all_listed}
use Rattle.tree_terms.proofs.rules.rules_of.Goals as goal

pub returns : goal.returns
returns c =
    let e : c.len-at-end.result ≡ length (row_rules c.args.symbol c.rules_of-rows.result) = c.len-at-end.ensures c.args.symbol in
    c.loop-at.invariant ∙ all_listed (row_rules c.args.symbol c.rules_of-rows.result) c.loop-at.at (omega (arith, e, c.loop-at-test.false)) ∙ c.rules_of-rows.ensures
