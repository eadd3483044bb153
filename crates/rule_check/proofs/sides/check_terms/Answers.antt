use Rattle.std.proofs.Common.{rules, sym as flip, subst}
use Rattle.dk_model.specs.Trees.{tree}
use Rattle.signature_log.specs.Versions.{entries_of}
use Rattle.signature_log.specs.Reducers.{AreOwned}
use Rattle.signature_log.proofs.Keeping.{keeps_further}
use Rattle.infer_check.proofs.Contexts.{owned_kept}
use Rattle.infer_check.proofs.Moving.{fit_is}
use Rattle.rule_check.proofs.Founds.{found_kept}
use Rattle.rule_check.proofs.Terms.{terms_fail, terms_go_on}
use Rattle.rule_check.proofs.sides.check_terms.Goals as goal

pub check_guards-requires-clause-found : goal.check_guards-requires-clause-found
check_guards-requires-clause-found g c = found_kept c.args.r.now c.all_types.new.r c.in_ok-types.ensures.keeps c.args.side.found c.requires.found

pub returns-in_err-types-2-clause-gives : goal.returns-in_err-types-2-clause-gives
returns-in_err-types-2-clause-gives g c =
    let p = terms_fail (entries_of c.args.version.now) c.args.r.now c.all_types.new.r c.in_ok-types.ensures.keeps (tree c.args.right.now) c.args.side c.requires.typ c.requires.found
    c.in_err-types-2.field-0.0 _ c.in_ok-types.types c.args.left.now c.in_ok-types.ensures.all c.in_err-types-2.ensures.gives in
    search rules

pub check_right-requires-clause-types : goal.check_right-requires-clause-types
check_right-requires-clause-types g c = subst (AreOwned g.R.Reducer.owns c.check_guards.new.r) (flip c.in_ok-types-2.ensures.gives.1)
    (owned_kept c.all_types.new.r c.check_guards.new.r c.in_ok-types.types c.in_ok-types-2.ensures.follows.keeps c.in_ok-types.ensures.all.own)

pub check_right-requires-clause-typ : goal.check_right-requires-clause-typ
check_right-requires-clause-typ g c = c.in_ok-types-2.ensures.follows.keeps.own c.args.side.typ (c.in_ok-types.ensures.keeps.own c.args.side.typ c.requires.typ)

pub check_right-requires-clause-found : goal.check_right-requires-clause-found
check_right-requires-clause-found g c = found_kept c.args.r.now c.check_guards.new.r (keeps_further c.args.r.now c.all_types.new.r c.check_guards.new.r c.in_ok-types.ensures.keeps c.in_ok-types-2.ensures.follows.keeps)
    c.args.side.found c.requires.found

pub returns-clause-gives : goal.returns-clause-gives
returns-clause-gives g c = fit_is c.check_right.result c.check_right.new.left
    (terms_go_on (entries_of c.args.version.now) c.args.r.now c.all_types.new.r c.in_ok-types.ensures.keeps (tree c.args.right.now) c.args.side c.requires.typ c.requires.found
    c.check_guards.new.r c.in_ok-types-2.ensures.follows.keeps c.in_ok-types.types c.in_ok-types-2.types c.args.left.now c.check_guards.new.left c.in_ok-types.ensures.all c.in_ok-types-2.ensures.gives.1 c.in_ok-types-2.ensures.gives.0)
    c.check_right.ensures.gives
