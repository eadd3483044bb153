use Rattle.rule_check.proofs.Founds.{bindings_kept}
use Rattle.rule_check.proofs.Bound.{still_from, has_room, has_level}
use Rattle.rule_check.proofs.bindings.make_room.Goals as goal

pub join_levels-requires : goal.join_levels-requires
join_levels-requires g c = bindings_kept c.args.r.now c.is_mentioned.new.r c.in_ok-is_mentioned.ensures.keeps c.args.bindings.now c.requires

pub returns-in_ok-push-clause-room : goal.returns-in_ok-push-clause-room
returns-in_ok-push-clause-room g c =
    let owns = g.R.Reducer.owns in
    let D = g.R.Reducer.denotes in
    let r = c.args.r.now in
    let mid = c.is_mentioned.new.r in
    let new = c.join_levels.new.r in
    let b = c.args.bindings.now in
    has_level owns D r new b c.join_levels.new.bindings c.push.new.self c.new.result c.args.number
    (still_from owns D r mid new c.in_ok-is_mentioned.ensures.keeps b c.join_levels.new.bindings c.requires c.in_ok-join_levels.ensures.still) c.in_ok-push.ensures.items

pub returns-else-branch-clause-room : goal.returns-else-branch-clause-room
returns-else-branch-clause-room g c =
    let told = c.in_ok-is_mentioned.ensures in
    has_room g.R.Reducer.owns g.R.Reducer.denotes c.args.r.now c.is_mentioned.new.r told.keeps c.args.bindings.now c.args.number c.in_ok-is_mentioned.field-0 c.requires c.if-branch.false told.tells
