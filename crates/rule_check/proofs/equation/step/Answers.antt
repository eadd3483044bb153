use Rattle.std.proofs.Common.{rules, ◌≡◌, ◌∙◌, ap, Some, None, [], sym as flip}
use Rattle.dk_model.specs.Solving.{binder_of, equation_of}
use Rattle.signature_log.specs.Versions.{entries_of}
use Rattle.signature_log.proofs.Keeping.{keeps_further}
use Rattle.rule_check.specs.Founds.{terms_of}
use Rattle.rule_check.specs.Equations.{divided}
use Rattle.rule_check.proofs.Founds.{bindings_kept, terms_kept}
use Rattle.rule_check.proofs.Solving.{may_be_bound, binders_same, first_binds, second_binds, no_binds, step_binds, step_parts}
use Rattle.rule_check.proofs.equation.step.Goals as goal

pub bind-requires-clause-term : goal.bind-requires-clause-term
bind-requires-clause-term g c =
    let e = c.args.equation in
    may_be_bound g.R.Reducer.owns g.R.Reducer.denotes c.args.r.now c.binder.new.r c.in_ok-number.ensures.keeps c.args.bindings.now c.in-Some.number e.one e.other c.requires.bindings c.requires.own.other c.requires.free.one c.requires.free.other
    (flip c.in-Some.is ∙ c.in_ok-number.ensures.binder)

pub bind-requires-clause-bindings : goal.bind-requires-clause-bindings
bind-requires-clause-bindings g c = bindings_kept c.args.r.now c.binder.new.r c.in_ok-number.ensures.keeps c.args.bindings.now c.requires.bindings

pub returns-in-Some-clause-steps : goal.returns-in-Some-clause-steps
returns-in-Some-clause-steps g c =
    let S = entries_of c.args.version.now in
    let D = g.R.Reducer.denotes in
    let r = c.args.r.now in
    let e = c.args.equation in
    step_binds g.R.Reducer.owns D r c.binder.new.r c.bind.new.r c.in_ok-number.ensures.keeps c.args.bindings.now c.bind.new.bindings (equation_of S (D r e.one) (D r e.other)) e.other c.in-Some.number c.new.result
    c.requires.bindings c.requires.own.other (first_binds S (D r e.one) (D r e.other) c.in-Some.number (flip c.in-Some.is ∙ c.in_ok-number.ensures.binder)) c.in_ok-bind.ensures.bound c.new.ensures.items

pub bind-requires-in-Some-2-clause-term : goal.bind-requires-in-Some-2-clause-term
bind-requires-in-Some-2-clause-term g c =
    let r = c.args.r.now in
    let e = c.args.equation in
    let k = c.in_ok-number.ensures.keeps in
    may_be_bound g.R.Reducer.owns g.R.Reducer.denotes r c.binder-2.new.r (keeps_further r c.binder.new.r c.binder-2.new.r k c.in_ok-number-2.ensures.keeps) c.args.bindings.now c.in-Some-2.number e.other e.one c.requires.bindings c.requires.own.one
    c.requires.free.other c.requires.free.one
    (binders_same (Some c.in-Some-2.number) (flip c.in-Some-2.is ∙ c.in_ok-number-2.ensures.binder) (k.same e.other c.requires.own.other) (k.same e.one c.requires.own.one))

pub bind-requires-in-Some-2-clause-bindings : goal.bind-requires-in-Some-2-clause-bindings
bind-requires-in-Some-2-clause-bindings g c = bindings_kept c.args.r.now c.binder-2.new.r (keeps_further c.args.r.now c.binder.new.r c.binder-2.new.r c.in_ok-number.ensures.keeps c.in_ok-number-2.ensures.keeps) c.args.bindings.now c.requires.bindings

pub returns-in-Some-2-clause-steps : goal.returns-in-Some-2-clause-steps
returns-in-Some-2-clause-steps g c =
    let S = entries_of c.args.version.now in
    let D = g.R.Reducer.denotes in
    let r = c.args.r.now in
    let mid = c.binder.new.r in
    let two = c.binder-2.new.r in
    let e = c.args.equation in
    let k = c.in_ok-number.ensures.keeps in
    let none : c.in_ok-number.field-0 ≡ None = search rules in
    let one : None ≡ binder_of (D r e.one) (D r e.other) = flip none ∙ c.in_ok-number.ensures.binder in
    let some : Some c.in-Some-2.number ≡ binder_of (D r e.other) (D r e.one) = binders_same (Some c.in-Some-2.number) (flip c.in-Some-2.is ∙ c.in_ok-number-2.ensures.binder) (k.same e.other c.requires.own.other) (k.same e.one c.requires.own.one) in
    step_binds g.R.Reducer.owns D r two c.bind-in-Some-2.new.r (keeps_further r mid two k c.in_ok-number-2.ensures.keeps) c.args.bindings.now c.bind-in-Some-2.new.bindings (equation_of S (D r e.one) (D r e.other)) e.one c.in-Some-2.number c.new-in-Some-2.result
    c.requires.bindings c.requires.own.one (second_binds S (D r e.one) (D r e.other) c.in-Some-2.number one some) c.in_ok-bind-2.ensures.bound c.new-in-Some-2.ensures.items

pub returns-clause-steps : goal.returns-clause-steps
returns-clause-steps g c =
    let S = entries_of c.args.version.now in
    let D = g.R.Reducer.denotes in
    let r = c.args.r.now in
    let mid = c.binder.new.r in
    let two = c.binder-2.new.r in
    let new = c.parts.new.r in
    let e = c.args.equation in
    let b = c.args.bindings.now in
    let k = c.in_ok-number.ensures.keeps in
    let l = keeps_further r mid two k c.in_ok-number-2.ensures.keeps in
    let m = keeps_further r two new l c.parts.ensures.keeps in
    let none : c.in_ok-number.field-0 ≡ None = search rules in
    let none-2 : c.in_ok-number-2.field-0 ≡ None = search rules in
    let one : None ≡ binder_of (D r e.one) (D r e.other) = flip none ∙ c.in_ok-number.ensures.binder in
    let other : None ≡ binder_of (D r e.other) (D r e.one) = binders_same None (flip none-2 ∙ c.in_ok-number-2.ensures.binder) (k.same e.other c.requires.own.other) (k.same e.one c.requires.own.one) in
    let due = no_binds S (D r e.one) (D r e.other) one other
    ∙ ap (λ z. divided S z (D r e.other) []) (flip (l.same e.one c.requires.own.one)) ∙ ap (λ z. divided S (D two e.one) z []) (flip (l.same e.other c.requires.own.other)) in
    step_parts g.R.Reducer.owns D new b (terms_of D r b) (equation_of S (D r e.one) (D r e.other)) (divided S (D two e.one) (D two e.other) []) c.parts.result c.parts.ensures.divides due
    (terms_kept r new m b c.requires.bindings) (bindings_kept r new m b c.requires.bindings)
