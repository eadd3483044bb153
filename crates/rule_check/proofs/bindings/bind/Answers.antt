use Rattle.rule_check.proofs.Bound.{bound_where_put}
use Rattle.rule_check.proofs.bindings.bind.Goals as goal

pub returns-clause-bound : goal.returns-clause-bound
returns-clause-bound g c =
    let one = c.make_room.new.r in
    let room = c.in_ok-make_room.ensures in
    let e = c.make_room.new.bindings in
    bound_where_put g.R.Reducer.owns g.R.Reducer.denotes c.args.r.now one c.note.new.r room.keeps c.in_ok-note.ensures.keeps c.args.bindings.now e
    (record { terms = c.put.new.terms; levels = c.place.new.levels; mentioned = c.note.new.mentioned })
    c.args.number c.args.term c.put.result c.requires.term room.room c.in_ok-place.ensures c.in_ok-note.ensures.noted c.put.ensures
