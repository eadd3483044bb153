use Rattle.std.proofs.Common.{rules, ◌∙◌, ap, sym as flip}
use Rattle.std.specs.Prelude.{Ok, Err}
use Rattle.dk_model.specs.Trees.{variable}
use Rattle.dk_model.specs.Substitution.{substitute}
use Rattle.dk_model.specs.Typing.{answer}
use Rattle.signature_log.specs.Versions.{entries_of}
use Rattle.infer_check.specs.Contexts.{bound_types}
use Rattle.infer_check.proofs.Contexts.{context_kept}
use Rattle.rule_check.specs.Founds.{terms_of}
use Rattle.rule_check.proofs.Founds.{bindings_kept, terms_kept}
use Rattle.rule_check.proofs.Moving.{fit_moved, applied_fails, applied_given, same_posed}
use Rattle.rule_check.proofs.occurrence.applied_type.Goals as goal

pub fit_variable-requires-clause-ready : goal.fit_variable-requires-clause-ready
fit_variable-requires-clause-ready g c = record {
  context = context_kept c.args.r.now c.into_product_under.new.r c.args.side.now.walk.context c.in_ok-function.ensures.follows.keeps c.requires.ready.context;
  serving = c.in_ok-function.ensures.follows.serving;
}

pub fit_variable-requires-clause-bindings : goal.fit_variable-requires-clause-bindings
fit_variable-requires-clause-bindings g c = bindings_kept c.args.r.now c.into_product_under.new.r c.in_ok-function.ensures.follows.keeps c.args.side.now.found.bindings c.requires.bindings

pub returns-in_err-fit_variable-clause-gives : goal.returns-in_err-fit_variable-clause-gives
returns-in_err-fit_variable-clause-gives g c =
    let S = entries_of c.args.version.now in
    let D = g.R.Reducer.denotes in
    let r = c.args.r.now in
    let q = c.into_product_under.new.r in
    let x = c.args.side.now.walk.context in
    let b = c.args.side.now.found.bindings in
    let k = c.in_ok-function.ensures.follows.keeps in
    let fn = c.in_ok-function.function in
    let f = c.in_err-fit_variable.field-0.0 in
    let moved = fit_moved S r q x k c.requires.ready.context b c.requires.bindings c.args.variable (D q fn.domain) c.into_product_under.new.left c.fit_variable.new.side.walk.left c.fit_variable.new.r c.fit_variable.new.side.found.bindings (Err f) c.in_err-fit_variable.ensures.gives in
    let p = applied_fails S (bound_types D r x) f _ c.args.variable (D r c.args.typ) (D q fn.domain) (D q fn.codomain) (terms_of D r b) c.args.side.now.walk.left c.into_product_under.new.left c.in_ok-function.ensures.gives.0 moved in
    search rules

pub returns-clause-gives : goal.returns-clause-gives
returns-clause-gives g c =
    let S = entries_of c.args.version.now in
    let D = g.R.Reducer.denotes in
    let r = c.args.r.now in
    let q = c.into_product_under.new.r in
    let s = c.fit_variable.new.r in
    let end = c.put_variable.new.r in
    let x = c.args.side.now.walk.context in
    let b = c.args.side.now.found.bindings in
    let after = c.fit_variable.new.side.found.bindings in
    let k = c.in_ok-function.ensures.follows.keeps in
    let l = c.in_ok-put_variable.ensures.keeps in
    let fn = c.in_ok-function.function in
    let moved = fit_moved S r q x k c.requires.ready.context b c.requires.bindings c.args.variable (D q fn.domain) c.into_product_under.new.left c.fit_variable.new.side.walk.left s after (Ok tt) c.in_ok-fit_variable.ensures.gives in
    let p = applied_given S (bound_types D r x) c.args.variable (D r c.args.typ) (D q fn.domain) (D q fn.codomain) (terms_of D r b) (terms_of D s after) c.args.side.now.walk.left c.into_product_under.new.left c.fit_variable.new.side.walk.left
    c.in_ok-function.ensures.gives.0 moved.0 in
    let made = c.in_ok-put_variable.ensures.makes in
    let e = c.in_ok-fit_variable.ensures.continues.keeps.same fn.codomain c.in_ok-function.ensures.gives.2 in (
      p ∙ ap (λ u. answer u c.fit_variable.new.side.walk.left) (same_posed (flip (made.0 ∙ ap (substitute 0 (variable c.args.variable)) e)) (flip (terms_kept s end l after moved.1))),
      made.1,
      bindings_kept s end l after moved.1,
    )
