use Rattle.std.proofs.Common.{rules, ◌∙◌, ap, map, subst, sym as flip}
use Rattle.std.specs.Prelude.{Ok, Err}
use Rattle.dk_model.specs.Trees.{product}
use Rattle.dk_model.specs.Bindings.{under}
use Rattle.dk_model.specs.Typing.{answer}
use Rattle.signature_log.specs.Versions.{entries_of}
use Rattle.infer_check.specs.Contexts.{bound_types}
use Rattle.infer_check.proofs.Contexts.{context_kept}
use Rattle.rule_check.specs.Founds.{terms_of}
use Rattle.rule_check.specs.Clauses.{GivesProductOf}
use Rattle.rule_check.proofs.Founds.{bindings_kept}
use Rattle.rule_check.proofs.Moving.{product_of_moved, product_fails, product_given}
use Rattle.rule_check.proofs.occurrence.+product_of.Goals as goal

pub product_of-requires : goal.product_of-requires
product_of-requires g t c =
    let k = c.in_ok-domain-in-Some.ensures.continues.keeps in
    let h = context_kept c.args.r.now c.argument_type.new.r c.args.walk.now.context k c.requires.ready.context in
    let b = bindings_kept c.args.r.now c.argument_type.new.r k c.args.arguments.bindings.now c.requires.bindings in
    let o = k.own c.args.expected c.requires.expected in
    search rules

pub returns-in_err-codomain-in-Some-clause-gives : goal.returns-in_err-codomain-in-Some-clause-gives
returns-in_err-codomain-in-Some-clause-gives g t c =
    let S = entries_of c.args.version.now in
    let D = g.R.Reducer.denotes in
    let r = c.args.r.now in
    let mid = c.argument_type.new.r in
    let x = c.args.walk.now.context in
    let b = c.args.arguments.bindings.now in
    let k = c.in_ok-domain-in-Some.ensures.continues.keeps in
    let f = c.in_err-codomain-in-Some.field-0.0 in
    let moved = product_of_moved S r mid x k c.requires.ready.context b c.requires.bindings c.product_of.new.r c.push.new.self c.in-Some.others.now (D mid c.args.expected) (D r c.args.expected)
    c.argument_type.new.walk.left c.product_of.new.walk.left (Err f) (k.same c.args.expected c.requires.expected)
    (subst (λ y. GivesProductOf g.R.Reducer.owns D S mid y b c.push.new.self c.in-Some.others.now (D mid c.args.expected) c.argument_type.new.walk.left c.product_of.new.r (Err f) c.product_of.new.walk.left)
    c.in_ok-domain-in-Some.ensures.continues.context c.in_err-codomain-in-Some.ensures.gives) in
    let p = product_fails S (map (under (terms_of D r b)) (bound_types D r x)) f _ c.args.arguments.before c.args.arguments.rest.now c.in-Some.others.now c.as_slice-in-Some.result.now c.push.new.self c.in-Some.first.now (D r c.args.expected) (D mid c.in_ok-domain-in-Some.domain)
    c.args.walk.now.left c.argument_type.new.walk.left c.in-Some.ensures.cases.0 c.in_ok-push-in-Some.ensures.ok c.as_slice-in-Some.ensures c.in_ok-domain-in-Some.ensures.gives.0 moved in
    search rules

pub returns-in_ok-build-in-Some-clause-gives : goal.returns-in_ok-build-in-Some-clause-gives
returns-in_ok-build-in-Some-clause-gives g t c =
    let S = entries_of c.args.version.now in
    let D = g.R.Reducer.denotes in
    let r = c.args.r.now in
    let mid = c.argument_type.new.r in
    let end = c.product_of.new.r in
    let x = c.args.walk.now.context in
    let b = c.args.arguments.bindings.now in
    let k = c.in_ok-domain-in-Some.ensures.continues.keeps in
    let domain = c.in_ok-domain-in-Some.domain in
    let codomain = c.in_ok-codomain-in-Some.codomain in
    let moved = product_of_moved S r mid x k c.requires.ready.context b c.requires.bindings end c.push.new.self c.in-Some.others.now (D mid c.args.expected) (D r c.args.expected)
    c.argument_type.new.walk.left c.product_of.new.walk.left (Ok codomain) (k.same c.args.expected c.requires.expected)
    (subst (λ y. GivesProductOf g.R.Reducer.owns D S mid y b c.push.new.self c.in-Some.others.now (D mid c.args.expected) c.argument_type.new.walk.left c.product_of.new.r (Ok codomain) c.product_of.new.walk.left)
    c.in_ok-domain-in-Some.ensures.continues.context c.in_ok-codomain-in-Some.ensures.gives) in
    let p = product_given S (map (under (terms_of D r b)) (bound_types D r x)) c.args.arguments.before c.args.arguments.rest.now c.in-Some.others.now c.as_slice-in-Some.result.now c.push.new.self c.in-Some.first.now (D r c.args.expected) (D mid domain) (D end codomain)
    c.args.walk.now.left c.argument_type.new.walk.left c.product_of.new.walk.left c.in-Some.ensures.cases.0 c.in_ok-push-in-Some.ensures.ok c.as_slice-in-Some.ensures c.in_ok-domain-in-Some.ensures.gives.0 moved.0 in
    let made = c.in_ok-build-in-Some.ensures.makes in
    let e = c.in_ok-codomain-in-Some.ensures.continues.keeps.same domain c.in_ok-domain-in-Some.ensures.gives.1 in
    (p ∙ ap (λ u. answer u c.product_of.new.walk.left) (flip (made.0 ∙ ap (λ u. product u (D end codomain)) e)), made.1)
