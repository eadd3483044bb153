-- A group for the one head that is left, and those of both halves.
use Rattle.std.proofs.Common.{◌∙◌, List, true, false, refl, subst, sym as flip, map}
use Rattle.dk_model.specs.Matrix.{Row as PlainRow}
use Rattle.rule_match.specs.declared.cell.Row.{Row}
use Rattle.rule_match.specs.declared.key.Key.{Key}
use Rattle.rule_match.specs.Rows.{row}
use Rattle.rule_match.specs.Groups.{KeepSame, AreGroups}
use Rattle.rule_match.proofs.Grouping.{same_in_half, same_first, same_last, same_for_first, group_pushed}
use Rattle.rule_match.proofs.group.+push_groups.Goals as goal

pub returns-in_ok-push : goal.returns-in_ok-push
returns-in_ok-push t c = λ rules all h g.
    subst (AreGroups rules c.args.column all) (flip c.in_ok-push.ensures.items)
    (group_pushed rules c.args.column all c.args.groups.now.items (record { key = c.in-Some.key.now; rows = c.in_ok-kept.kept }) g
    (c.in_ok-kept.ensures rules ∙ same_for_first c.args.keys.now c.in-Some.key.now c.args.column (map (row rules) c.args.rows.now) all c.in-Some.ensures.value h))

pub returns-in_ok-push_groups-2 : goal.returns-in_ok-push_groups-2
returns-in_ok-push_groups-2 t c = λ rules all h g.
    let rows : List PlainRow = map (row rules) c.args.rows.now in
    let first : KeepSame c.split_at.result.0.now c.args.column rows all =
    subst (λ (ks : List Key). KeepSame ks c.args.column rows all) (flip c.split_at.ensures.front) (same_first c.args.keys.now _ c.args.column rows all h) in
    let low : KeepSame c.split_at.result.0.now c.args.column (map (row rules) c.as_slice.result.now) all =
    subst (λ (l : List Row). KeepSame c.split_at.result.0.now c.args.column (map (row rules) l) all) (flip c.as_slice.ensures.value)
    (same_in_half _ true c.split_at.result.0.now c.args.column (map (row rules) c.in_ok-low.low.items) rows all (c.if-are_beside.ensures refl) (c.in_ok-low.ensures rules) first) in
    let second : KeepSame c.split_at.result.1.now c.args.column rows all =
    subst (λ (ks : List Key). KeepSame ks c.args.column rows all) (flip c.split_at.ensures.back) (same_last c.args.keys.now _ c.args.column rows all h) in
    let high : KeepSame c.split_at.result.1.now c.args.column (map (row rules) c.as_slice-then-are_beside-2.result.now) all =
    subst (λ (l : List Row). KeepSame c.split_at.result.1.now c.args.column (map (row rules) l) all) (flip c.as_slice-then-are_beside-2.ensures.value)
    (same_in_half _ false c.split_at.result.1.now c.args.column (map (row rules) c.in_ok-high.high.items) rows all (c.if-are_beside-2.ensures refl) (c.in_ok-high.ensures rules) second) in
    c.in_ok-push_groups-2.ensures rules all high (c.in_ok-push_groups.ensures rules all low g)
