use Rattle.std.proofs.Common.{sym as flip, subst}
use Rattle.rule_check.specs.Levels.{IsBeforeLast}
use Rattle.rule_check.proofs.Resolved.{is_before_last}
use Rattle.rule_check.proofs.levels.small_level.Goals as goal

pub returns-then-len : goal.returns-then-len
returns-then-len c =
    subst (IsBeforeLast c.args.levels.now) (flip c.as_slice.ensures.value)
    (is_before_last c.args.levels.now c.in-Some.front.now c.in-Some-split_last.field-0-1.now c.in-Some-split_last.level.now c.in-Some.last.now c.in-Some.ensures.cases.0 c.in-Some-split_last.ensures.cases.0)
