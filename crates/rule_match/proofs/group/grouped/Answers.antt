use Rattle.std.proofs.Common.{subst, sym as flip, map}
use Rattle.rule_match.specs.Rows.{row}
use Rattle.rule_match.specs.Groups.{AreGroups}
use Rattle.rule_match.proofs.Grouping.{same_all}
use Rattle.rule_match.proofs.group.grouped.Goals as goal

pub returns : goal.returns
returns c = λ rules.
    c.in_ok-push_groups.ensures rules (map (row rules) c.args.rows.now) (same_all c.as_slice.result.now c.args.column (map (row rules) c.args.rows.now))
    (subst (AreGroups rules c.args.column (map (row rules) c.args.rows.now)) (flip c.new-groups.ensures.items) tt)
