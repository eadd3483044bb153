use Rattle.std.proofs.Common.{rules, ◌≡◌, ◌∙◌, true, false, ap, sym as flip}
use Rattle.dk_model.specs.Erasure.{erased}
use Rattle.dk_model.specs.Typing.{inferred, as_star, as_convertible}
use Rattle.dk_model.specs.declared.code.Code.TheVariants.{E21}
use Rattle.signature_log.specs.Versions.{entries_of}
use Rattle.signature_log.proofs.Keeping.{keeps_further}
use Rattle.infer_check.specs.Contexts.{rule_types, bound_types}
use Rattle.infer_check.proofs.Moving.{same_same}
use Rattle.split_check.specs.Laying.{LaysFit, domain_agrees}
use Rattle.split_check.proofs.Joining.{type_none, type_some, fit_false, fit_true, fit_alike, if_ok, domain_untyped, domain_unsorted, domain_compared}
use Rattle.split_check.proofs.typing.lay_domain.Goals as goal

pub returns-in_default-clause-lays : goal.returns-in_default-clause-lays
returns-in_default-clause-lays g c =
    let S = entries_of c.args.version.now in
    let D = g.R.Reducer.denotes in
    let r = c.args.r.now in
    let x = c.args.laying.now.walk.context in
    let d = D r c.args.domain in
    let A = D r c.args.expected.now in
    domain_untyped S (rule_types D r x) (bound_types D r x) d A d c.args.laying.now c.lay_type.new.laying c.lay_type.new.laying c.lay_type.new.laying
    (type_none g.R.Reducer.owns D S c.args.laying.now c.lay_type.new.laying c.lay_type.new.r (inferred S (rule_types D r x) (bound_types D r x) d) c.in_ok-sort.field-0 c.in_default.not-Some c.in_ok-sort.ensures.lays)

pub returns-then-not-branch-clause-lays : goal.returns-then-not-branch-clause-lays
returns-then-not-branch-clause-lays g c =
    let S = entries_of c.args.version.now in
    let D = g.R.Reducer.denotes in
    let r = c.args.r.now in
    let x = c.args.laying.now.walk.context in
    let d = D r c.args.domain in
    let A = D r c.args.expected.now in
    let first = c.lay_type.new.laying in
    let second = c.lay_star.new.laying in
    let p = type_some g.R.Reducer.owns D S c.args.laying.now first c.lay_type.new.r (inferred S (rule_types D r x) (bound_types D r x) d) c.in_ok-sort.field-0 c.in-Some.sort c.in-Some.is c.in_ok-sort.ensures.lays in
    let s = D c.lay_type.new.r c.in-Some.sort in
    let e : c.in_ok-lay_star.field-0 ≡ false = search rules in
    domain_unsorted S (rule_types D r x) (bound_types D r x) d A s c.args.laying.now first second second p.0 c.in_ok-sort.ensures.stays.whole
    (fit_false S (as_star S s) first second c.in_ok-lay_star.field-0 e c.in_ok-lay_star.ensures.lays)

pub returns-clause-lays : goal.returns-clause-lays
returns-clause-lays g c =
    let S = entries_of c.args.version.now in
    let D = g.R.Reducer.denotes in
    let r = c.args.r.now in
    let x = c.args.laying.now.walk.context in
    let V = rule_types D r x in
    let G = bound_types D r x in
    let d = D r c.args.domain in
    let A = D r c.args.expected.now in
    let first = c.lay_type.new.laying in
    let second = c.lay_star.new.laying in
    let third = c.lay_same.new.laying in
    let p = type_some g.R.Reducer.owns D S c.args.laying.now first c.lay_type.new.r (inferred S V G d) c.in_ok-sort.field-0 c.in-Some.sort c.in-Some.is c.in_ok-sort.ensures.lays in
    let s = D c.lay_type.new.r c.in-Some.sort in
    let e : c.in_ok-lay_star.field-0 ≡ true = search rules in
    let q = fit_true S (as_star S s) first second c.in_ok-lay_star.field-0 e c.in_ok-lay_star.ensures.lays in
    let k2 = keeps_further r c.lay_type.new.r c.lay_star.new.r c.in_ok-sort.ensures.follows.keeps c.in_ok-lay_star.ensures.follows.keeps in
    let k3 = keeps_further r c.lay_star.new.r c.erase.new.self k2 c.in_ok-erased.ensures.keeps in
    let t = c.erase.new.self in
    let de : erased d ≡ D t c.in_ok-erased.erased = flip (c.in_ok-erased.ensures.makes.0 ∙ ap erased (k2.same c.args.domain c.requires.domain)) in
    let ee : A ≡ D t c.args.expected.now = flip (k3.same c.args.expected.now c.requires.expected) in
    if_ok (LaysFit S (as_convertible S E21 (D t c.in_ok-erased.erased) (D t c.args.expected.now)) second third) (LaysFit S (domain_agrees S V G d A) c.args.laying.now third) c.lay_same.result
    (λ b h. domain_compared S V G d A s c.args.laying.now first second third p.0 c.in_ok-sort.ensures.stays.whole q c.in_ok-lay_star.ensures.stays.whole b
    (fit_alike S (as_convertible S E21 (D t c.in_ok-erased.erased) (D t c.args.expected.now)) (as_convertible S E21 (erased d) A) second third b (λ n. same_same S n de ee) h))
    c.lay_same.ensures.lays
