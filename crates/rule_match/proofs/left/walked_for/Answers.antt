use Rattle.std.proofs.Common.{◌∙◌, ap, sym as flip, map, drop}
use Rattle.rule_match.specs.Rows.{kept_row}
use Rattle.rule_match.specs.Remaining.{rows_left}
use Rattle.rule_match.proofs.Following.{walked_result, whole_result}
use Rattle.rule_match.proofs.left.walked_for.Goals as goal

pub returns-in_ok-rows-in-Kept : goal.returns-in_ok-rows-in-Kept
returns-in_ok-rows-in-Kept c =
    walked_result c.args.source.now c.args.left.now c.in_ok-rows-in-Kept.rows.items c.untried.result.now c.args.tried c.args.key c.args.column c.refined_rows.result
    (λ rules. c.in_ok-rows-in-Kept.ensures rules ∙ ap (map (kept_row rules)) c.as_slice.ensures.value ∙ flip (ap (rows_left rules) c.in-Kept.is))
    (c.untried.ensures ∙ ap (drop c.args.tried) c.as_slice-in-Kept.ensures.value) c.refined_rows.ensures

pub returns-in-Whole : goal.returns-in-Whole
returns-in-Whole c = whole_result c.args.source.now c.args.left.now c.in-Whole.width c.args.tried c.args.key c.args.column c.whole_for.result c.in-Whole.is c.whole_for.ensures

pub returns-in-Walked : goal.returns-in-Walked
returns-in-Walked c =
    walked_result c.args.source.now c.args.left.now c.in-Walked.rows.items c.untried-in-Walked.result.now c.args.tried c.args.key c.args.column c.refined_rows-in-Walked.result
    (λ rules. flip (ap (rows_left rules) c.in-Walked.is)) (c.untried-in-Walked.ensures ∙ ap (drop c.args.tried) c.as_slice-in-Walked.ensures.value) c.refined_rows-in-Walked.ensures
