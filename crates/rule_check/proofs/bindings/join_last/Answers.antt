use Rattle.std.proofs.Common.{refl, subst}
use Rattle.rule_check.specs.Levels.{IsBeforeLast}
use Rattle.rule_check.proofs.Bound.{is_still}
use Rattle.rule_check.proofs.bindings.join_last.Goals as goal

pub returns-clause-still : goal.returns-clause-still
returns-clause-still g c =
    let b = c.args.bindings.now in
    let put = c.in_ok-put_into_each-in-Some.ensures in
    let level = c.in-Some.level.now in
    is_still g.R.Reducer.owns g.R.Reducer.denotes c.args.r.now c.put_into_each.new.r put.keeps b (record { terms = c.put_into_each.new.terms; levels = c.join.new.levels; mentioned = b.mentioned }) c.requires level
    (subst (λ ls. IsBeforeLast ls level) c.as_slice.ensures.value c.in-Some.ensures) c.in_ok-join.ensures put.put refl
