-- Each step, from the state of the reducer before it to that at the start.
use Rattle.std.proofs.Common.{rules, ◌∙◌, ◌∷◌, sym as flip, ap, refl, subst, map}
use Rattle.dk_model.specs.Trees.{product}
use Rattle.dk_model.specs.Substitution.{substitute}
use Rattle.dk_model.specs.Erasure.{erased}
use Rattle.dk_model.specs.Typing.{answer, is_abstraction}
use Rattle.signature_log.specs.Versions.{entries_of}
use Rattle.signature_log.specs.Reducers.{built, AreOwned}
use Rattle.signature_log.proofs.Keeping.{keeps_further}
use Rattle.infer_check.specs.Contexts.{with_bound, rule_types, bound_types}
use Rattle.infer_check.specs.Spine.{along, size}
use Rattle.infer_check.proofs.Judging.{fails_is, check_infer_fails, annotated_domain_fails, annotated_same_fails, annotated_body, bare_body, argument_check_fails, argument_given_type, abstraction_body_fails, abstraction_kind_fails, abstraction_given, product_codomain_fails, product_sort}
use Rattle.infer_check.specs.Applied.{put_together}
use Rattle.infer_check.proofs.Putting.{applied_kept, together_kept}
use Rattle.infer_check.proofs.Contexts.{owned_last}
use Rattle.infer_check.proofs.Spines.{map_pushed, argument_fails}
use Rattle.infer_check.proofs.Moving.{same_size, context_moved, rule_types_moved, bound_types_moved, context_under, rule_types_under, bound_types_under, checked_same, inferred_same, domain_same, argument_same, same_same, fit_is, type_is, opened_bare, owned_bare, opened_annotated, owned_annotated, not_abstraction, last_smaller}
use Rattle.infer_check.proofs.+typing.Goals as goal

-- an annotated abstraction

pub checking::check_annotated-infer_domain-requires : goal.checking::check_annotated-infer_domain-requires
checking::check_annotated-infer_domain-requires g t c =
    let k = keeps_further c.args.r.now c.into_product.new.r c.erase.new.self c.in_ok-function.ensures.follows.keeps c.in_ok-erased.ensures.keeps in
    let e = same_size c.args.r.now c.erase.new.self k c.args.abstraction.annotation c.requires.annotation in
    let o = k.own c.args.abstraction.annotation c.requires.annotation in
    let h = context_moved c.args.r.now c.erase.new.self k c.args.walk.now.context c.args.walk.now.context c.requires.ready.context refl in
    search rules

pub checking::check_annotated-returns-in_err-infer_domain-clause-gives : goal.checking::check_annotated-returns-in_err-infer_domain-clause-gives
checking::check_annotated-returns-in_err-infer_domain-clause-gives g t c =
    let k = keeps_further c.args.r.now c.into_product.new.r c.erase.new.self c.in_ok-function.ensures.follows.keeps c.in_ok-erased.ensures.keeps in
    let S = entries_of c.args.version.now in
    let D = g.R.Reducer.denotes in
    let p = annotated_domain_fails S (rule_types D c.args.r.now c.args.walk.now.context) (bound_types D c.args.r.now c.args.walk.now.context) c.in_err-infer_domain.field-0.0 _
    (D c.args.r.now c.args.abstraction.annotation) (D c.args.r.now c.args.abstraction.body) (D c.args.r.now c.args.expected) (D c.into_product.new.r c.in_ok-function.function.domain)
    (D c.into_product.new.r c.in_ok-function.function.codomain) c.args.walk.now.left c.into_product.new.left c.in_ok-function.ensures.gives.0
    (fails_is c.in_err-infer_domain.field-0.0 _ _ _ (flip (domain_same S c.into_product.new.left (rule_types_moved c.args.r.now c.erase.new.self k c.args.walk.now.context c.args.walk.now.context c.requires.ready.context refl)
    (bound_types_moved c.args.r.now c.erase.new.self k c.args.walk.now.context c.args.walk.now.context c.requires.ready.context refl) (k.same c.args.abstraction.annotation c.requires.annotation))) c.in_err-infer_domain.ensures.gives) in
    search rules

pub checking::check_annotated-returns-in_err-as_convertible-clause-gives : goal.checking::check_annotated-returns-in_err-as_convertible-clause-gives
checking::check_annotated-returns-in_err-as_convertible-clause-gives g t c =
    let S = entries_of c.args.version.now in
    let D = g.R.Reducer.denotes in
    let r = c.args.r.now in
    let x = c.args.walk.now.context in
    let V = rule_types D r x in
    let G = bound_types D r x in
    let q = c.into_product.new.r in
    let e = c.erase.new.self in
    let fn = c.in_ok-function.function in
    let kp = c.in_ok-function.ensures.follows.keeps in
    let ke = keeps_further r q e kp c.in_ok-erased.ensures.keeps in
    let i = c.infer_domain.new.r in
    let kqi = keeps_further q e i c.in_ok-erased.ensures.keeps c.in_ok-infer_domain.ensures.continues.keeps in
    let fits = flip (domain_same S c.into_product.new.left (rule_types_moved r e ke x x c.requires.ready.context refl) (bound_types_moved r e ke x x c.requires.ready.context refl)
    (ke.same c.args.abstraction.annotation c.requires.annotation)) ∙ c.in_ok-infer_domain.ensures.gives in
    let alike = same_same S c.infer_domain.new.walk.left (flip (c.in_ok-infer_domain.ensures.continues.keeps.same c.in_ok-erased.erased c.in_ok-erased.ensures.makes.1 ∙ c.in_ok-erased.ensures.makes.0
    ∙ ap erased (kp.same c.args.abstraction.annotation c.requires.annotation))) (flip (kqi.same fn.domain c.in_ok-function.ensures.gives.1)) in
    let p = annotated_same_fails S V G c.in_err-as_convertible.field-0.0 _ (D r c.args.abstraction.annotation) (D r c.args.abstraction.body) (D r c.args.expected) (D q fn.domain) (D q fn.codomain)
    c.args.walk.now.left c.into_product.new.left c.infer_domain.new.walk.left c.in_ok-function.ensures.gives.0 fits (fails_is c.in_err-as_convertible.field-0.0 _ _ _ alike c.in_err-as_convertible.ensures.gives) in
    search rules

pub checking::check_annotated-check_taken-fits-requires : goal.checking::check_annotated-check_taken-fits-requires
checking::check_annotated-check_taken-fits-requires g t c =
    let S = entries_of c.args.version.now in
    let D = g.R.Reducer.denotes in
    let r = c.args.r.now in
    let x = c.args.walk.now.context in
    let V = rule_types D r x in
    let G = bound_types D r x in
    let q = c.into_product.new.r in
    let e = c.erase.new.self in
    let fn = c.in_ok-function.function in
    let kp = c.in_ok-function.ensures.follows.keeps in
    let ke = keeps_further r q e kp c.in_ok-erased.ensures.keeps in
    let i = c.infer_domain.new.r in
    let kqi = keeps_further q e i c.in_ok-erased.ensures.keeps c.in_ok-infer_domain.ensures.continues.keeps in
    let fits = flip (domain_same S c.into_product.new.left (rule_types_moved r e ke x x c.requires.ready.context refl) (bound_types_moved r e ke x x c.requires.ready.context refl)
    (ke.same c.args.abstraction.annotation c.requires.annotation)) ∙ c.in_ok-infer_domain.ensures.gives in
    let alike = same_same S c.infer_domain.new.walk.left (flip (c.in_ok-infer_domain.ensures.continues.keeps.same c.in_ok-erased.erased c.in_ok-erased.ensures.makes.1 ∙ c.in_ok-erased.ensures.makes.0
    ∙ ap erased (kp.same c.args.abstraction.annotation c.requires.annotation))) (flip (kqi.same fn.domain c.in_ok-function.ensures.gives.1)) in
    let a = c.as_convertible.new.r in
    let kqa = keeps_further q i a kqi c.in_ok-as_convertible.ensures.follows.keeps in
    let ka = keeps_further r q a kp kqa in
    let b = c.bind.new.self in
    let bound = c.in_ok-bind.ensures.ok ∙ ap (λ y. with_bound y fn.domain) c.in_ok-infer_domain.ensures.continues.context in
    let s = same_size r a ka c.args.abstraction.body c.requires.body in
    let o = ka.own c.args.abstraction.body c.requires.body in
    let w = kqa.own fn.codomain c.in_ok-function.ensures.gives.2 in
    let h = context_under r a ka x b c.requires.ready.context fn.domain bound (kqa.own fn.domain c.in_ok-function.ensures.gives.1) in
    search rules

pub checking::check_annotated-returns-clause-gives : goal.checking::check_annotated-returns-clause-gives
checking::check_annotated-returns-clause-gives g t c =
    let S = entries_of c.args.version.now in
    let D = g.R.Reducer.denotes in
    let r = c.args.r.now in
    let x = c.args.walk.now.context in
    let V = rule_types D r x in
    let G = bound_types D r x in
    let q = c.into_product.new.r in
    let e = c.erase.new.self in
    let fn = c.in_ok-function.function in
    let kp = c.in_ok-function.ensures.follows.keeps in
    let ke = keeps_further r q e kp c.in_ok-erased.ensures.keeps in
    let i = c.infer_domain.new.r in
    let kqi = keeps_further q e i c.in_ok-erased.ensures.keeps c.in_ok-infer_domain.ensures.continues.keeps in
    let fits = flip (domain_same S c.into_product.new.left (rule_types_moved r e ke x x c.requires.ready.context refl) (bound_types_moved r e ke x x c.requires.ready.context refl)
    (ke.same c.args.abstraction.annotation c.requires.annotation)) ∙ c.in_ok-infer_domain.ensures.gives in
    let alike = same_same S c.infer_domain.new.walk.left (flip (c.in_ok-infer_domain.ensures.continues.keeps.same c.in_ok-erased.erased c.in_ok-erased.ensures.makes.1 ∙ c.in_ok-erased.ensures.makes.0
    ∙ ap erased (kp.same c.args.abstraction.annotation c.requires.annotation))) (flip (kqi.same fn.domain c.in_ok-function.ensures.gives.1)) in
    let a = c.as_convertible.new.r in
    let kqa = keeps_further q i a kqi c.in_ok-as_convertible.ensures.follows.keeps in
    let ka = keeps_further r q a kp kqa in
    let b = c.bind.new.self in
    let bound = c.in_ok-bind.ensures.ok ∙ ap (λ y. with_bound y fn.domain) c.in_ok-infer_domain.ensures.continues.context in
    fit_is c.check_taken-fits.result c.check_taken-fits.new.walk.left
    (annotated_body S V G (D r c.args.abstraction.annotation) (D r c.args.abstraction.body) (D r c.args.expected) (D q fn.domain) (D q fn.codomain)
    c.args.walk.now.left c.into_product.new.left c.infer_domain.new.walk.left c.as_convertible.new.left c.in_ok-function.ensures.gives.0 fits (alike ∙ c.in_ok-as_convertible.ensures.gives)
    ∙ flip (checked_same S c.as_convertible.new.left (rule_types_under r a ka x b c.requires.ready.context fn.domain bound)
    (bound_types_under r a ka x b c.requires.ready.context fn.domain bound ∙ ap (λ y. y ∷ G) (kqa.same fn.domain c.in_ok-function.ensures.gives.1))
    (ka.same c.args.abstraction.body c.requires.body) (kqa.same fn.codomain c.in_ok-function.ensures.gives.2)))
    c.check_taken-fits.ensures.gives

pub checking::check_bare-check_taken-fits-requires : goal.checking::check_bare-check_taken-fits-requires
checking::check_bare-check_taken-fits-requires g t c =
    let S = entries_of c.args.version.now in
    let D = g.R.Reducer.denotes in
    let r = c.args.r.now in
    let x = c.args.walk.now.context in
    let V = rule_types D r x in
    let G = bound_types D r x in
    let q = c.into_product.new.r in
    let fn = c.in_ok-function.function in
    let k = c.in_ok-function.ensures.follows.keeps in
    let b = c.bind.new.self in
    let s = same_size r q k c.args.body c.requires.body in
    let o = k.own c.args.body c.requires.body in
    let h = context_under r q k x b c.requires.ready.context fn.domain c.in_ok-bind.ensures.ok c.in_ok-function.ensures.gives.1 in
    search rules

pub checking::check_bare-returns-clause-gives : goal.checking::check_bare-returns-clause-gives
checking::check_bare-returns-clause-gives g t c =
    let S = entries_of c.args.version.now in
    let D = g.R.Reducer.denotes in
    let r = c.args.r.now in
    let x = c.args.walk.now.context in
    let V = rule_types D r x in
    let G = bound_types D r x in
    let q = c.into_product.new.r in
    let fn = c.in_ok-function.function in
    let k = c.in_ok-function.ensures.follows.keeps in
    let b = c.bind.new.self in
    fit_is c.check_taken-fits.result c.check_taken-fits.new.walk.left
    (bare_body S V G (D r c.args.body) (D r c.args.expected) (D q fn.domain) (D q fn.codomain) c.args.walk.now.left c.into_product.new.left c.in_ok-function.ensures.gives.0
    ∙ flip (checked_same S c.into_product.new.left (rule_types_under r q k x b c.requires.ready.context fn.domain c.in_ok-bind.ensures.ok)
    (bound_types_under r q k x b c.requires.ready.context fn.domain c.in_ok-bind.ensures.ok) (k.same c.args.body c.requires.body) refl))
    c.check_taken-fits.ensures.gives

pub checking::check_taken-check_bare-requires : goal.checking::check_taken-check_bare-requires
checking::check_taken-check_bare-requires g t c =
    let S = entries_of c.args.version.now in
    let D = g.R.Reducer.denotes in
    let r = c.args.r.now in
    let x = c.args.walk.now.context in
    let V = rule_types D r x in
    let G = bound_types D r x in
    let o = c.open.new.self in
    let k = c.in_ok-other.ensures.keeps in
    let node = c.in_ok-other.ensures.node in
    let s = ap size (opened_bare g.R.Reducer.owns D o c.in_ok-other.other c.in-Abs.annotation c.in-Abs.b (D r c.args.term) c.in-Abs.is c.in-None.is node.0) in
    let p = owned_bare g.R.Reducer.owns D o c.in_ok-other.other c.in-Abs.annotation c.in-Abs.b c.in-Abs.is c.in-None.is node.1 in
    let w = k.own c.args.expected c.requires.expected in
    let h = context_moved r o k x x c.requires.ready.context refl in
    search rules

pub checking::check_taken-check_annotated-requires : goal.checking::check_taken-check_annotated-requires
checking::check_taken-check_annotated-requires g t c =
    let S = entries_of c.args.version.now in
    let D = g.R.Reducer.denotes in
    let r = c.args.r.now in
    let x = c.args.walk.now.context in
    let V = rule_types D r x in
    let G = bound_types D r x in
    let o = c.open.new.self in
    let k = c.in_ok-other.ensures.keeps in
    let node = c.in_ok-other.ensures.node in
    let s = ap size (opened_annotated g.R.Reducer.owns D o c.in_ok-other.other c.in-Abs.annotation c.in-Abs.b c.in-Some.d (D r c.args.term) c.in-Abs.is c.in-Some.is node.0) in
    let p = owned_annotated g.R.Reducer.owns D o c.in_ok-other.other c.in-Abs.annotation c.in-Abs.b c.in-Some.d c.in-Abs.is c.in-Some.is node.1 in
    let w = k.own c.args.expected c.requires.expected in
    let h = context_moved r o k x x c.requires.ready.context refl in
    search rules

pub checking::check_taken-infer_node-requires : goal.checking::check_taken-infer_node-requires
checking::check_taken-infer_node-requires g t c =
    let S = entries_of c.args.version.now in
    let D = g.R.Reducer.denotes in
    let r = c.args.r.now in
    let x = c.args.walk.now.context in
    let V = rule_types D r x in
    let G = bound_types D r x in
    let o = c.open.new.self in
    let k = c.in_ok-other.ensures.keeps in
    let node = c.in_ok-other.ensures.node in
    let s = ap size node.0 in
    let h = context_moved r o k x x c.requires.ready.context refl in
    search rules

pub checking::check_taken-returns-in_err-found-in_default : goal.checking::check_taken-returns-in_err-found-in_default
checking::check_taken-returns-in_err-found-in_default g t c =
    let S = entries_of c.args.version.now in
    let D = g.R.Reducer.denotes in
    let r = c.args.r.now in
    let x = c.args.walk.now.context in
    let V = rule_types D r x in
    let G = bound_types D r x in
    let o = c.open.new.self in
    let k = c.in_ok-other.ensures.keeps in
    let node = c.in_ok-other.ensures.node in
    let err = c.in_err-found-in_default.ensures in
    let a = ap is_abstraction node.0 ∙ not_abstraction D o c.in_ok-other.other c.in_default.not-Abs in
    let p = check_infer_fails S V G c.in_err-found-in_default.field-0.0 _ (D r c.args.term) (D r c.args.expected) c.args.walk.now.left a
    (fails_is c.in_err-found-in_default.field-0.0 _ _ _ (flip (inferred_same S c.args.walk.now.left (rule_types_moved r o k x x c.requires.ready.context refl)
    (bound_types_moved r o k x x c.requires.ready.context refl) (flip node.0))) err.gives) in
    record {
      gives = search rules;
      continues = record { keeps = keeps_further r o c.infer_node.new.r k err.continues.keeps; serving = err.continues.serving; context = err.continues.context; spent = err.continues.spent };
    }

pub checking::check_taken-returns-in-None-clause-gives : goal.checking::check_taken-returns-in-None-clause-gives
checking::check_taken-returns-in-None-clause-gives g t c =
    let S = entries_of c.args.version.now in
    let D = g.R.Reducer.denotes in
    let r = c.args.r.now in
    let x = c.args.walk.now.context in
    let V = rule_types D r x in
    let G = bound_types D r x in
    let o = c.open.new.self in
    let k = c.in_ok-other.ensures.keeps in
    let node = c.in_ok-other.ensures.node in
    fit_is c.check_bare.result c.check_bare.new.walk.left
    (flip (checked_same S c.args.walk.now.left (rule_types_moved r o k x x c.requires.ready.context refl) (bound_types_moved r o k x x c.requires.ready.context refl)
    (flip (opened_bare g.R.Reducer.owns D o c.in_ok-other.other c.in-Abs.annotation c.in-Abs.b (D r c.args.term) c.in-Abs.is c.in-None.is node.0))
    (k.same c.args.expected c.requires.expected)))
    c.check_bare.ensures.gives

pub checking::check_taken-returns-in-Some-clause-gives : goal.checking::check_taken-returns-in-Some-clause-gives
checking::check_taken-returns-in-Some-clause-gives g t c =
    let S = entries_of c.args.version.now in
    let D = g.R.Reducer.denotes in
    let r = c.args.r.now in
    let x = c.args.walk.now.context in
    let V = rule_types D r x in
    let G = bound_types D r x in
    let o = c.open.new.self in
    let k = c.in_ok-other.ensures.keeps in
    let node = c.in_ok-other.ensures.node in
    fit_is c.check_annotated.result c.check_annotated.new.walk.left
    (flip (checked_same S c.args.walk.now.left (rule_types_moved r o k x x c.requires.ready.context refl) (bound_types_moved r o k x x c.requires.ready.context refl)
    (flip (opened_annotated g.R.Reducer.owns D o c.in_ok-other.other c.in-Abs.annotation c.in-Abs.b c.in-Some.d (D r c.args.term) c.in-Abs.is c.in-Some.is node.0))
    (k.same c.args.expected c.requires.expected)))
    c.check_annotated.ensures.gives

pub inference::apply-check_taken-requires : goal.inference::apply-check_taken-requires
inference::apply-check_taken-requires g t c =
    let S = entries_of c.args.version.now in
    let D = g.R.Reducer.denotes in
    let r = c.args.r.now in
    let x = c.args.walk.now.context in
    let V = rule_types D r x in
    let G = bound_types D r x in
    let q = c.function_of.new.r in
    let p = c.applied_to.new.r in
    let fn = c.in_ok-function.function in
    let kq = c.in_ok-function.ensures.follows.keeps in
    let kqp = c.in_ok-found.ensures.keeps in
    let k = keeps_further r q p kq kqp in
    let s = same_size r p k c.args.argument c.requires.argument in
    let o = k.own c.args.argument c.requires.argument in
    let w = kqp.own fn.domain c.in_ok-function.ensures.gives.1 in
    let h = context_moved r p k x x c.requires.ready.context refl in
    search rules

pub inference::apply-returns-in_err-check_taken-clause-gives : goal.inference::apply-returns-in_err-check_taken-clause-gives
inference::apply-returns-in_err-check_taken-clause-gives g t c =
    let S = entries_of c.args.version.now in
    let D = g.R.Reducer.denotes in
    let r = c.args.r.now in
    let x = c.args.walk.now.context in
    let V = rule_types D r x in
    let G = bound_types D r x in
    let q = c.function_of.new.r in
    let p = c.applied_to.new.r in
    let fn = c.in_ok-function.function in
    let kq = c.in_ok-function.ensures.follows.keeps in
    let kqp = c.in_ok-found.ensures.keeps in
    let k = keeps_further r q p kq kqp in
    let fits = flip (checked_same S c.function_of.new.left (rule_types_moved r p k x x c.requires.ready.context refl) (bound_types_moved r p k x x c.requires.ready.context refl)
    (k.same c.args.argument c.requires.argument) (kqp.same fn.domain c.in_ok-function.ensures.gives.1)) in
    let h = argument_check_fails S V G c.in_err-check_taken.field-0.0 _ (D r c.args.argument) (put_together g.R.Reducer.owns D r 0 c.args.typ) (D q fn.domain) (put_together g.R.Reducer.owns D q 1 fn.codomain) c.args.walk.now.left c.function_of.new.left
    c.in_ok-function.ensures.gives.0 (fails_is c.in_err-check_taken.field-0.0 _ _ _ fits c.in_err-check_taken.ensures.gives) in
    search rules

pub inference::apply-returns-clause-gives : goal.inference::apply-returns-clause-gives
inference::apply-returns-clause-gives g t c =
    let S = entries_of c.args.version.now in
    let D = g.R.Reducer.denotes in
    let r = c.args.r.now in
    let x = c.args.walk.now.context in
    let V = rule_types D r x in
    let G = bound_types D r x in
    let q = c.function_of.new.r in
    let p = c.applied_to.new.r in
    let fn = c.in_ok-function.function in
    let kq = c.in_ok-function.ensures.follows.keeps in
    let kqp = c.in_ok-found.ensures.keeps in
    let k = keeps_further r q p kq kqp in
    let fits = flip (checked_same S c.function_of.new.left (rule_types_moved r p k x x c.requires.ready.context refl) (bound_types_moved r p k x x c.requires.ready.context refl)
    (k.same c.args.argument c.requires.argument) (kqp.same fn.domain c.in_ok-function.ensures.gives.1)) in
    let kf = c.in_ok-check_taken.ensures.continues.keeps in
    let found = c.in_ok-found.found in (
      argument_given_type S V G (D r c.args.argument) (put_together g.R.Reducer.owns D r 0 c.args.typ) (D q fn.domain) (put_together g.R.Reducer.owns D q 1 fn.codomain) c.args.walk.now.left c.function_of.new.left c.check_taken.new.walk.left
          c.in_ok-function.ensures.gives.0 (fits ∙ c.in_ok-check_taken.ensures.gives)
          ∙ ap (λ y. answer y c.check_taken.new.walk.left) (flip (together_kept g.R.Reducer.owns D p c.check_taken.new.r kf 0 found c.in_ok-found.ensures.own ∙ c.in_ok-found.ensures.is
          ∙ ap (λ y. substitute 0 (erased y) (put_together g.R.Reducer.owns D q 1 fn.codomain)) (kq.same c.args.argument c.requires.argument))),
      applied_kept g.R.Reducer.owns D p c.check_taken.new.r kf found c.in_ok-found.ensures.own,
    )

pub inference::infer_abstraction-infer_domain-requires : goal.inference::infer_abstraction-infer_domain-requires
inference::infer_abstraction-infer_domain-requires g t c =
    let S = entries_of c.args.version.now in
    let D = g.R.Reducer.denotes in
    let r = c.args.r.now in
    let x = c.args.walk.now.context in
    let V = rule_types D r x in
    let G = bound_types D r x in
    let e = c.erase.new.self in
    let ke = c.in_ok-erased.ensures.keeps in
    let s = same_size r e ke c.args.domain c.requires.domain in
    let o = ke.own c.args.domain c.requires.domain in
    let h = context_moved r e ke x x c.requires.ready.context refl in
    search rules

pub inference::infer_abstraction-infer_taken-found-requires : goal.inference::infer_abstraction-infer_taken-found-requires
inference::infer_abstraction-infer_taken-found-requires g t c =
    let S = entries_of c.args.version.now in
    let D = g.R.Reducer.denotes in
    let r = c.args.r.now in
    let x = c.args.walk.now.context in
    let V = rule_types D r x in
    let G = bound_types D r x in
    let e = c.erase.new.self in
    let ke = c.in_ok-erased.ensures.keeps in
    let made = c.in_ok-erased.ensures.makes in
    let i = c.infer_domain.new.r in
    let kei = c.in_ok-infer_domain.ensures.continues.keeps in
    let k = keeps_further r e i ke kei in
    let b = c.bind.new.self in
    let bound = c.in_ok-bind.ensures.ok ∙ ap (λ y. with_bound y c.in_ok-erased.erased) c.in_ok-infer_domain.ensures.continues.context in
    let s = same_size r i k c.args.body c.requires.body in
    let o = k.own c.args.body c.requires.body in
    let h = context_under r i k x b c.requires.ready.context c.in_ok-erased.erased bound (kei.own c.in_ok-erased.erased made.1) in
    search rules

pub inference::infer_abstraction-returns-in_err-found-clause-gives : goal.inference::infer_abstraction-returns-in_err-found-clause-gives
inference::infer_abstraction-returns-in_err-found-clause-gives g t c =
    let S = entries_of c.args.version.now in
    let D = g.R.Reducer.denotes in
    let r = c.args.r.now in
    let x = c.args.walk.now.context in
    let V = rule_types D r x in
    let G = bound_types D r x in
    let e = c.erase.new.self in
    let ke = c.in_ok-erased.ensures.keeps in
    let made = c.in_ok-erased.ensures.makes in
    let i = c.infer_domain.new.r in
    let kei = c.in_ok-infer_domain.ensures.continues.keeps in
    let k = keeps_further r e i ke kei in
    let b = c.bind.new.self in
    let bound = c.in_ok-bind.ensures.ok ∙ ap (λ y. with_bound y c.in_ok-erased.erased) c.in_ok-infer_domain.ensures.continues.context in
    let fits = flip (domain_same S c.args.walk.now.left (rule_types_moved r e ke x x c.requires.ready.context refl) (bound_types_moved r e ke x x c.requires.ready.context refl)
    (ke.same c.args.domain c.requires.domain)) ∙ c.in_ok-infer_domain.ensures.gives in
    let typed = flip (inferred_same S c.infer_domain.new.walk.left (rule_types_under r i k x b c.requires.ready.context c.in_ok-erased.erased bound)
    (bound_types_under r i k x b c.requires.ready.context c.in_ok-erased.erased bound ∙ ap (λ y. y ∷ G) (kei.same c.in_ok-erased.erased made.1 ∙ made.0))
    (k.same c.args.body c.requires.body)) in
    let h = abstraction_body_fails S V G c.in_err-found.field-0.0 _ (D r c.args.domain) (D r c.args.body) c.args.walk.now.left c.infer_domain.new.walk.left fits
    (fails_is c.in_err-found.field-0.0 _ _ _ typed c.in_err-found.ensures.gives) in
    search rules

pub inference::infer_abstraction-returns-in_err-codomain-clause-gives : goal.inference::infer_abstraction-returns-in_err-codomain-clause-gives
inference::infer_abstraction-returns-in_err-codomain-clause-gives g t c =
    let S = entries_of c.args.version.now in
    let D = g.R.Reducer.denotes in
    let r = c.args.r.now in
    let x = c.args.walk.now.context in
    let V = rule_types D r x in
    let G = bound_types D r x in
    let e = c.erase.new.self in
    let ke = c.in_ok-erased.ensures.keeps in
    let made = c.in_ok-erased.ensures.makes in
    let i = c.infer_domain.new.r in
    let kei = c.in_ok-infer_domain.ensures.continues.keeps in
    let k = keeps_further r e i ke kei in
    let b = c.bind.new.self in
    let bound = c.in_ok-bind.ensures.ok ∙ ap (λ y. with_bound y c.in_ok-erased.erased) c.in_ok-infer_domain.ensures.continues.context in
    let fits = flip (domain_same S c.args.walk.now.left (rule_types_moved r e ke x x c.requires.ready.context refl) (bound_types_moved r e ke x x c.requires.ready.context refl)
    (ke.same c.args.domain c.requires.domain)) ∙ c.in_ok-infer_domain.ensures.gives in
    let typed = flip (inferred_same S c.infer_domain.new.walk.left (rule_types_under r i k x b c.requires.ready.context c.in_ok-erased.erased bound)
    (bound_types_under r i k x b c.requires.ready.context c.in_ok-erased.erased bound ∙ ap (λ y. y ∷ G) (kei.same c.in_ok-erased.erased made.1 ∙ made.0))
    (k.same c.args.body c.requires.body)) in
    let h = abstraction_kind_fails S V G c.in_err-codomain.field-0.0 _ (D r c.args.domain) (D r c.args.body) (D c.infer_taken-found.new.r c.in_ok-found.field-0) c.args.walk.now.left
    c.infer_domain.new.walk.left c.infer_taken-found.new.walk.left fits (typed ∙ c.in_ok-found.ensures.gives.0) (c.in_err-codomain.ensures.gives c.infer_taken-found.new.walk.left) in
    search rules

pub inference::infer_abstraction-build-requires : goal.inference::infer_abstraction-build-requires
inference::infer_abstraction-build-requires g t c =
    let S = entries_of c.args.version.now in
    let D = g.R.Reducer.denotes in
    let r = c.args.r.now in
    let x = c.args.walk.now.context in
    let V = rule_types D r x in
    let G = bound_types D r x in
    let e = c.erase.new.self in
    let ke = c.in_ok-erased.ensures.keeps in
    let made = c.in_ok-erased.ensures.makes in
    let i = c.infer_domain.new.r in
    let kei = c.in_ok-infer_domain.ensures.continues.keeps in
    let k = keeps_further r e i ke kei in
    let b = c.bind.new.self in
    let bound = c.in_ok-bind.ensures.ok ∙ ap (λ y. with_bound y c.in_ok-erased.erased) c.in_ok-infer_domain.ensures.continues.context in
    let n = c.not_kind.new.r in
    let ken = keeps_further e c.infer_taken-found.new.r n (keeps_further e i c.infer_taken-found.new.r kei c.in_ok-found.ensures.continues.keeps) c.in_ok-codomain.ensures.keeps in
    let back = c.leave-domain.ensures x c.in_ok-erased.erased (c.infer_taken-found.ensures.continues.context ∙ bound) in
    let o : g.R.Reducer.owns n c.leave-domain.result = rw (back.1) (ken.own c.in_ok-erased.erased made.1) in
    record { own = (o, (c.in_ok-codomain.ensures.gives c.infer_taken-found.new.walk.left).1) }

pub inference::infer_abstraction-returns-clause-gives : goal.inference::infer_abstraction-returns-clause-gives
inference::infer_abstraction-returns-clause-gives g t c =
    let S = entries_of c.args.version.now in
    let D = g.R.Reducer.denotes in
    let r = c.args.r.now in
    let x = c.args.walk.now.context in
    let V = rule_types D r x in
    let G = bound_types D r x in
    let e = c.erase.new.self in
    let ke = c.in_ok-erased.ensures.keeps in
    let made = c.in_ok-erased.ensures.makes in
    let i = c.infer_domain.new.r in
    let kei = c.in_ok-infer_domain.ensures.continues.keeps in
    let k = keeps_further r e i ke kei in
    let b = c.bind.new.self in
    let bound = c.in_ok-bind.ensures.ok ∙ ap (λ y. with_bound y c.in_ok-erased.erased) c.in_ok-infer_domain.ensures.continues.context in
    let fits = flip (domain_same S c.args.walk.now.left (rule_types_moved r e ke x x c.requires.ready.context refl) (bound_types_moved r e ke x x c.requires.ready.context refl)
    (ke.same c.args.domain c.requires.domain)) ∙ c.in_ok-infer_domain.ensures.gives in
    let typed = flip (inferred_same S c.infer_domain.new.walk.left (rule_types_under r i k x b c.requires.ready.context c.in_ok-erased.erased bound)
    (bound_types_under r i k x b c.requires.ready.context c.in_ok-erased.erased bound ∙ ap (λ y. y ∷ G) (kei.same c.in_ok-erased.erased made.1 ∙ made.0))
    (k.same c.args.body c.requires.body)) in
    let n = c.not_kind.new.r in
    let ken = keeps_further e c.infer_taken-found.new.r n (keeps_further e i c.infer_taken-found.new.r kei c.in_ok-found.ensures.continues.keeps) c.in_ok-codomain.ensures.keeps in
    let back = c.leave-domain.ensures x c.in_ok-erased.erased (c.infer_taken-found.ensures.continues.context ∙ bound) in (
      abstraction_given S V G (D r c.args.domain) (D r c.args.body) (D c.infer_taken-found.new.r c.in_ok-found.field-0) (D n c.in_ok-codomain.codomain) c.args.walk.now.left
          c.infer_domain.new.walk.left c.infer_taken-found.new.walk.left fits (typed ∙ c.in_ok-found.ensures.gives.0) (c.in_ok-codomain.ensures.gives c.infer_taken-found.new.walk.left).0
          ∙ ap (λ y. answer y c.infer_taken-found.new.walk.left) (flip (c.in_ok-build.ensures.makes.0 ∙ ap (λ y. product y (D n c.in_ok-codomain.codomain))
          (ap (D n) back.1 ∙ ken.same c.in_ok-erased.erased made.1 ∙ made.0))),
      c.in_ok-build.ensures.makes.1,
    )

pub inference::infer_node-apply-requires : goal.inference::infer_node-apply-requires
inference::infer_node-apply-requires g t c =
    let S = entries_of c.args.version.now in
    let D = g.R.Reducer.denotes in
    let r = c.args.r.now in
    let x = c.args.walk.now.context in
    let V = rule_types D r x in
    let G = bound_types D r x in
    let l = c.loop-argument.invariant in
    let at = c.loop-argument.r in
    let e = c.in-Some.ensures.items in
    let s = last_smaller D at c.loop-argument.arguments.items c.pop.new.self.items c.in-Some.argument (size (built D r c.args.node)) e l.smaller in
    let o = owned_last g.R.Reducer.owns at c.pop.new.self.items c.in-Some.argument (subst (AreOwned g.R.Reducer.owns at) e l.arguments) in
    let h = context_moved r at l.continues.keeps x c.loop-argument.walk.context c.requires.ready.context l.continues.context in
    search rules

pub inference::infer_node-returns-in_err-typ-clause-gives : goal.inference::infer_node-returns-in_err-typ-clause-gives
inference::infer_node-returns-in_err-typ-clause-gives g t c =
    let S = entries_of c.args.version.now in
    let D = g.R.Reducer.denotes in
    let r = c.args.r.now in
    let x = c.args.walk.now.context in
    let V = rule_types D r x in
    let G = bound_types D r x in
    let l = c.loop-argument.invariant in
    let at = c.loop-argument.r in
    let n = c.loop-argument.walk.left in
    let f = c.in_err-typ.field-0.0 in
    let a = c.in-Some.argument in
    let rest = map (D at) c.pop.new.self.items in
    let F = put_together g.R.Reducer.owns D at 0 c.loop-argument.typ in
    let h = fails_is f _ _ _ (flip (argument_same S {a = D at a} {A = F} n (rule_types_moved r at l.continues.keeps x c.loop-argument.walk.context c.requires.ready.context l.continues.context)
    (bound_types_moved r at l.continues.keeps x c.loop-argument.walk.context c.requires.ready.context l.continues.context) refl refl)) c.in_err-typ.ensures.gives in
    let p = fails_is f _ _ _ (flip l.same ∙ ap (λ y. along S V G y F n) (ap (map (D at)) c.in-Some.ensures.items ∙ map_pushed (D at) c.pop.new.self.items a))
    (argument_fails S V G f _ rest (D at a) F n h) in
    search rules

pub inference::infer_product-infer_domain-requires : goal.inference::infer_product-infer_domain-requires
inference::infer_product-infer_domain-requires g t c =
    let S = entries_of c.args.version.now in
    let D = g.R.Reducer.denotes in
    let r = c.args.r.now in
    let x = c.args.walk.now.context in
    let V = rule_types D r x in
    let G = bound_types D r x in
    let e = c.erase.new.self in
    let ke = c.in_ok-erased.ensures.keeps in
    let s = same_size r e ke c.args.domain c.requires.domain in
    let o = ke.own c.args.domain c.requires.domain in
    let h = context_moved r e ke x x c.requires.ready.context refl in
    search rules

pub inference::infer_product-infer_taken-found-requires : goal.inference::infer_product-infer_taken-found-requires
inference::infer_product-infer_taken-found-requires g t c =
    let S = entries_of c.args.version.now in
    let D = g.R.Reducer.denotes in
    let r = c.args.r.now in
    let x = c.args.walk.now.context in
    let V = rule_types D r x in
    let G = bound_types D r x in
    let e = c.erase.new.self in
    let ke = c.in_ok-erased.ensures.keeps in
    let made = c.in_ok-erased.ensures.makes in
    let i = c.infer_domain.new.r in
    let kei = c.in_ok-infer_domain.ensures.continues.keeps in
    let k = keeps_further r e i ke kei in
    let b = c.bind.new.self in
    let bound = c.in_ok-bind.ensures.ok ∙ ap (λ y. with_bound y c.in_ok-erased.erased) c.in_ok-infer_domain.ensures.continues.context in
    let s = same_size r i k c.args.codomain c.requires.codomain in
    let o = k.own c.args.codomain c.requires.codomain in
    let h = context_under r i k x b c.requires.ready.context c.in_ok-erased.erased bound (kei.own c.in_ok-erased.erased made.1) in
    search rules

pub inference::infer_product-returns-in_err-found-clause-gives : goal.inference::infer_product-returns-in_err-found-clause-gives
inference::infer_product-returns-in_err-found-clause-gives g t c =
    let S = entries_of c.args.version.now in
    let D = g.R.Reducer.denotes in
    let r = c.args.r.now in
    let x = c.args.walk.now.context in
    let V = rule_types D r x in
    let G = bound_types D r x in
    let e = c.erase.new.self in
    let ke = c.in_ok-erased.ensures.keeps in
    let made = c.in_ok-erased.ensures.makes in
    let i = c.infer_domain.new.r in
    let kei = c.in_ok-infer_domain.ensures.continues.keeps in
    let k = keeps_further r e i ke kei in
    let b = c.bind.new.self in
    let bound = c.in_ok-bind.ensures.ok ∙ ap (λ y. with_bound y c.in_ok-erased.erased) c.in_ok-infer_domain.ensures.continues.context in
    let fits = flip (domain_same S c.args.walk.now.left (rule_types_moved r e ke x x c.requires.ready.context refl) (bound_types_moved r e ke x x c.requires.ready.context refl)
    (ke.same c.args.domain c.requires.domain)) ∙ c.in_ok-infer_domain.ensures.gives in
    let typed = flip (inferred_same S c.infer_domain.new.walk.left (rule_types_under r i k x b c.requires.ready.context c.in_ok-erased.erased bound)
    (bound_types_under r i k x b c.requires.ready.context c.in_ok-erased.erased bound ∙ ap (λ y. y ∷ G) (kei.same c.in_ok-erased.erased made.1 ∙ made.0))
    (k.same c.args.codomain c.requires.codomain)) in
    let h = product_codomain_fails S V G c.in_err-found.field-0.0 _ (D r c.args.domain) (D r c.args.codomain) c.args.walk.now.left c.infer_domain.new.walk.left fits
    (fails_is c.in_err-found.field-0.0 _ _ _ typed c.in_err-found.ensures.gives) in
    search rules

pub inference::infer_product-returns-clause-gives : goal.inference::infer_product-returns-clause-gives
inference::infer_product-returns-clause-gives g t c =
    let S = entries_of c.args.version.now in
    let D = g.R.Reducer.denotes in
    let r = c.args.r.now in
    let x = c.args.walk.now.context in
    let V = rule_types D r x in
    let G = bound_types D r x in
    let e = c.erase.new.self in
    let ke = c.in_ok-erased.ensures.keeps in
    let made = c.in_ok-erased.ensures.makes in
    let i = c.infer_domain.new.r in
    let kei = c.in_ok-infer_domain.ensures.continues.keeps in
    let k = keeps_further r e i ke kei in
    let b = c.bind.new.self in
    let bound = c.in_ok-bind.ensures.ok ∙ ap (λ y. with_bound y c.in_ok-erased.erased) c.in_ok-infer_domain.ensures.continues.context in
    let fits = flip (domain_same S c.args.walk.now.left (rule_types_moved r e ke x x c.requires.ready.context refl) (bound_types_moved r e ke x x c.requires.ready.context refl)
    (ke.same c.args.domain c.requires.domain)) ∙ c.in_ok-infer_domain.ensures.gives in
    let typed = flip (inferred_same S c.infer_domain.new.walk.left (rule_types_under r i k x b c.requires.ready.context c.in_ok-erased.erased bound)
    (bound_types_under r i k x b c.requires.ready.context c.in_ok-erased.erased bound ∙ ap (λ y. y ∷ G) (kei.same c.in_ok-erased.erased made.1 ∙ made.0))
    (k.same c.args.codomain c.requires.codomain)) in
    type_is g.R.Reducer.owns D c.as_sort.new.r c.as_sort.result c.as_sort.new.left
    (product_sort S V G (D r c.args.domain) (D r c.args.codomain) (D c.infer_taken-found.new.r c.in_ok-found.field-0) c.args.walk.now.left
    c.infer_domain.new.walk.left c.infer_taken-found.new.walk.left fits (typed ∙ c.in_ok-found.ensures.gives.0))
    c.as_sort.ensures.gives

pub inference::infer_taken-infer_node-requires : goal.inference::infer_taken-infer_node-requires
inference::infer_taken-infer_node-requires g t c =
    let S = entries_of c.args.version.now in
    let D = g.R.Reducer.denotes in
    let r = c.args.r.now in
    let x = c.args.walk.now.context in
    let V = rule_types D r x in
    let G = bound_types D r x in
    let o = c.open.new.self in
    let k = c.in_ok-node.ensures.keeps in
    let s = ap size c.in_ok-node.ensures.node.0 in
    let h = context_moved r o k x x c.requires.ready.context refl in
    search rules

pub checking::check_annotated-as_convertible-requires-clause-own : goal.checking::check_annotated-as_convertible-requires-clause-own
checking::check_annotated-as_convertible-requires-clause-own g t c =
    c.in_ok-infer_domain.ensures.continues.keeps.own c.in_ok-erased.erased c.in_ok-erased.ensures.makes.1

pub checking::check_annotated-as_convertible-requires-clause-other : goal.checking::check_annotated-as_convertible-requires-clause-other
checking::check_annotated-as_convertible-requires-clause-other g t c =
    c.in_ok-infer_domain.ensures.continues.keeps.own c.in_ok-function.function.domain (c.in_ok-erased.ensures.keeps.own c.in_ok-function.function.domain c.in_ok-function.ensures.gives.1)

pub checking::check_annotated-as_convertible-requires-clause-serves : goal.checking::check_annotated-as_convertible-requires-clause-serves
checking::check_annotated-as_convertible-requires-clause-serves g t c =
    c.in_ok-infer_domain.ensures.continues.serving

pub inference::infer_abstraction-not_kind-requires : goal.inference::infer_abstraction-not_kind-requires
inference::infer_abstraction-not_kind-requires g t c =
    c.in_ok-found.ensures.gives.1

pub inference::infer_product-as_sort-requires-clause-own : goal.inference::infer_product-as_sort-requires-clause-own
inference::infer_product-as_sort-requires-clause-own g t c =
    c.in_ok-found.ensures.gives.1

pub inference::infer_product-as_sort-requires-clause-serves : goal.inference::infer_product-as_sort-requires-clause-serves
inference::infer_product-as_sort-requires-clause-serves g t c =
    c.in_ok-found.ensures.continues.serving
