use Rattle.std.proofs.Common.{rules, ◌≤◌, ◌<◌, ◌∙◌, ap, length}
use Rattle.rule_check.specs.Mentioned.{with_mark}
use Rattle.rule_check.proofs.Marks.{mark_padded, mark_set}
use Rattle.rule_check.proofs.mentioned.mark.Goals as goal

pub loop-marks-preserved : goal.loop-marks-preserved
loop-marks-preserved c =
    let le : length c.loop-marks.marks.items ≤ c.args.number = search rules in
    ap (λ bs. with_mark bs c.args.number) c.in_ok-push.ensures.items ∙ mark_padded c.loop-marks.marks.items c.args.number le ∙ c.loop-marks.invariant

pub returns : goal.returns
returns c =
    let lt : c.args.number < length c.loop-marks.marks.items = search rules in
    mark_set c.loop-marks.marks.items c.args.number lt ∙ c.loop-marks.invariant
