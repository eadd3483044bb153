-- Each step, from the state of the reducer before it to that at the start.
use Rattle.std.proofs.Common.{rules, ◌∙◌, sym as flip, ap, refl}
use Rattle.dk_model.specs.Trees.{apply}
use Rattle.dk_model.specs.Substitution.{substitute}
use Rattle.dk_model.specs.Signatures.{pattern}
use Rattle.dk_model.specs.Typing.{answer}
use Rattle.dk_model.specs.RuleTyping.{Walked}
use Rattle.dk_model.specs.Solving.{solved}
use Rattle.signature_log.specs.Versions.{entries_of}
use Rattle.infer_check.specs.Contexts.{bound_types}
use Rattle.infer_check.proofs.Contexts.{bound_types_kept}
use Rattle.infer_check.proofs.Judging.{fails_is}
use Rattle.infer_check.proofs.Moving.{context_moved, bound_types_moved, context_under, bound_types_under}
use Rattle.rule_check.specs.Founds.{terms_of, found_of}
use Rattle.rule_check.specs.Given.{OwnsHeaded}
use Rattle.rule_check.proofs.Continuing.{continues_further}
use Rattle.rule_check.proofs.Founds.{found_kept, found_same, rebound_same, rebound_owned}
use Rattle.rule_check.proofs.Judging.{abstraction_body_fails, abstraction_given, expected_given, expected_compared_fails}
use Rattle.rule_check.proofs.Moving.{same_walked}
use Rattle.rule_check.proofs.Sizes.{pattern_size, patterns_size, plain_patterns, symbol_is, variable_is, first_smaller, others_smaller}
use Rattle.rule_check.proofs.Walking.{walked_same, argument_same, headed_is, pattern_is, spine_fails, spine_given, argument_fails, argument_given, headed_same}
use Rattle.rule_check.proofs.walk.+walking.Goals as goal

-- a symbol or a variable with its patterns

pub walk-walk_headed-requires : goal.walk-walk_headed-requires
walk-walk_headed-requires g t c =
    let r = c.args.r.now in
    let q = c.symbol_head.new.r in
    let k = c.in_ok-head-in-Sym.ensures.keeps in
    let s = ap pattern_size (symbol_is c.in-Sym.number c.args.pattern.now c.in-Sym.arguments c.as_slice-arguments.result.now c.in-Sym.is c.as_slice-arguments.ensures) in
    let h : OwnsHeaded g.R.Reducer.owns q c.in_ok-head-in-Sym.head = record { term = c.in_ok-head-in-Sym.ensures.head.own; typ = c.in_ok-head-in-Sym.ensures.head.own_typ } in
    let o = k.own c.args.expected.now c.requires.expected in
    let x = context_moved r q k c.args.side.now.walk.context c.args.side.now.walk.context c.requires.ready.context refl in
    let f = found_kept r q k c.args.side.now.found c.requires.found in
    search rules

pub walk-walk_headed-requires-in-Var : goal.walk-walk_headed-requires-in-Var
walk-walk_headed-requires-in-Var g t c =
    let r = c.args.r.now in
    let q = c.variable_head.new.r in
    let k = c.in_ok-head-in-Var.ensures.keeps in
    let s = ap pattern_size (variable_is c.in-Var.number c.args.pattern.now c.in-Var.arguments c.as_slice-arguments-in-Var.result.now c.in-Var.is c.as_slice-arguments-in-Var.ensures) in
    let h : OwnsHeaded g.R.Reducer.owns q c.in_ok-head-in-Var.head = record { term = c.in_ok-head-in-Var.ensures.head.own; typ = c.in_ok-head-in-Var.ensures.head.own_typ } in
    let o = k.own c.args.expected.now c.requires.expected in
    let x = context_moved r q k c.args.side.now.walk.context c.args.side.now.walk.context c.requires.ready.context refl in
    let f = found_kept r q k c.args.side.now.found c.requires.found in
    search rules

pub walk-returns-in_ok-head-in-Sym-clause-gives : goal.walk-returns-in_ok-head-in-Sym-clause-gives
walk-returns-in_ok-head-in-Sym-clause-gives g t c =
    let S = entries_of c.args.version.now in
    let D = g.R.Reducer.denotes in
    let r = c.args.r.now in
    let q = c.symbol_head.new.r in
    let x = c.args.side.now.walk.context in
    let w = c.args.side.now.found in
    let k = c.in_ok-head-in-Sym.ensures.keeps in
    let head = c.in_ok-head-in-Sym.ensures.head in
    let n = c.args.side.now.walk.left in
    pattern_is S g.R.Reducer.owns D (bound_types D r x) (D r c.args.expected.now) (found_of D r w) n c.walk_headed.new.r c.walk_headed.new.side.found c.walk_headed.result c.walk_headed.new.side.walk.left
    (symbol_is c.in-Sym.number c.args.pattern.now c.in-Sym.arguments c.as_slice-arguments.result.now c.in-Sym.is c.as_slice-arguments.ensures)
    (headed_is S g.R.Reducer.owns D (plain_patterns c.as_slice-arguments.result.now) n c.walk_headed.new.r c.walk_headed.new.side.found c.walk_headed.result c.walk_headed.new.side.walk.left
    (bound_types_kept r q x k c.requires.ready.context) head.term head.typ (found_same r q k w c.requires.found) (k.same c.args.expected.now c.requires.expected) c.walk_headed.ensures.gives)

pub walk-returns-in_ok-head-in-Var-clause-gives : goal.walk-returns-in_ok-head-in-Var-clause-gives
walk-returns-in_ok-head-in-Var-clause-gives g t c =
    let S = entries_of c.args.version.now in
    let D = g.R.Reducer.denotes in
    let r = c.args.r.now in
    let q = c.variable_head.new.r in
    let x = c.args.side.now.walk.context in
    let w = c.args.side.now.found in
    let k = c.in_ok-head-in-Var.ensures.keeps in
    let head = c.in_ok-head-in-Var.ensures.head in
    let n = c.args.side.now.walk.left in
    pattern_is S g.R.Reducer.owns D (bound_types D r x) (D r c.args.expected.now) (found_of D r w) n c.walk_headed-in-Var.new.r c.walk_headed-in-Var.new.side.found c.walk_headed-in-Var.result c.walk_headed-in-Var.new.side.walk.left
    (variable_is c.in-Var.number c.args.pattern.now c.in-Var.arguments c.as_slice-arguments-in-Var.result.now c.in-Var.is c.as_slice-arguments-in-Var.ensures)
    (headed_is S g.R.Reducer.owns D (plain_patterns c.as_slice-arguments-in-Var.result.now) n c.walk_headed-in-Var.new.r c.walk_headed-in-Var.new.side.found c.walk_headed-in-Var.result c.walk_headed-in-Var.new.side.walk.left
    (bound_types_kept r q x k c.requires.ready.context) head.term head.typ (found_same r q k w c.requires.found) (k.same c.args.expected.now c.requires.expected) c.walk_headed-in-Var.ensures.gives)

-- an abstraction

pub walk_abstraction-walk-body-requires : goal.walk_abstraction-walk-body-requires
walk_abstraction-walk-body-requires g t c =
    let r = c.args.r.now in
    let q = c.as_product_under.new.r in
    let k = c.in_ok-function.ensures.follows.keeps in
    let fn = c.in_ok-function.function in
    let x = context_under r q k c.args.side.now.walk.context c.bind.new.self c.requires.ready.context fn.domain c.in_ok-bind.ensures.ok c.in_ok-function.ensures.gives.1 in
    let f = found_kept r q k c.args.side.now.found c.requires.found in
    search rules

pub walk_abstraction-returns-in_err-body-clause-gives : goal.walk_abstraction-returns-in_err-body-clause-gives
walk_abstraction-returns-in_err-body-clause-gives g t c =
    let S = entries_of c.args.version.now in
    let D = g.R.Reducer.denotes in
    let r = c.args.r.now in
    let q = c.as_product_under.new.r in
    let x = c.args.side.now.walk.context in
    let w = c.args.side.now.found in
    let k = c.in_ok-function.ensures.follows.keeps in
    let fn = c.in_ok-function.function in
    let f = c.in_err-body.field-0.0 in
    let same = walked_same S (pattern c.args.body.now) c.as_product_under.new.left (bound_types_under r q k x c.bind.new.self c.requires.ready.context fn.domain c.in_ok-bind.ensures.ok) refl (found_same r q k w c.requires.found) in
    let p = abstraction_body_fails S (bound_types D r x) f _ (pattern c.args.body.now) (D r c.args.expected.now) (D q fn.domain) (D q fn.codomain) (found_of D r w) c.args.side.now.walk.left c.as_product_under.new.left
    c.in_ok-function.ensures.gives.0 (fails_is f _ _ _ (flip same) c.in_err-body.ensures.gives) in
    search rules

pub walk_abstraction-returns-clause-gives : goal.walk_abstraction-returns-clause-gives
walk_abstraction-returns-clause-gives g t c =
    let S = entries_of c.args.version.now in
    let D = g.R.Reducer.denotes in
    let r = c.args.r.now in
    let q = c.as_product_under.new.r in
    let s = c.walk-body.new.r in
    let end = c.build.new.self in
    let x = c.args.side.now.walk.context in
    let w = c.args.side.now.found in
    let after = c.walk-body.new.side.found in
    let n = c.walk-body.new.side.walk.left in
    let k = c.in_ok-function.ensures.follows.keeps in
    let fn = c.in_ok-function.function in
    let body = c.in_ok-body.field-0 in
    let given = c.in_ok-body.ensures.gives in
    let l = c.in_ok-build.ensures.keeps in
    let made = c.in_ok-build.ensures.makes in
    let a : Walked = record { term = D s body; typ = D q fn.codomain; found = found_of D s after } in
    let same = walked_same S (pattern c.args.body.now) c.as_product_under.new.left (bound_types_under r q k x c.bind.new.self c.requires.ready.context fn.domain c.in_ok-bind.ensures.ok) refl (found_same r q k w c.requires.found) in (
      abstraction_given S (bound_types D r x) (pattern c.args.body.now) (D r c.args.expected.now) (D q fn.domain) (D q fn.codomain) (found_of D r w) a c.args.side.now.walk.left c.as_product_under.new.left n
          c.in_ok-function.ensures.gives.0 (flip same ∙ given.0)
          ∙ ap (λ y. answer y n) (same_walked (flip made.0) (flip (found_same s end l after given.2))),
      made.1,
      found_kept s end l after given.2,
    )

-- a head with one pattern

pub walk_argument-walk-requires : goal.walk_argument-walk-requires
walk_argument-walk-requires g t c =
    let r = c.args.r.now in
    let q = c.into_product_under.new.r in
    let k = c.in_ok-function.ensures.follows.keeps in
    let x = context_moved r q k c.args.side.now.walk.context c.args.side.now.walk.context c.requires.ready.context refl in
    let f = found_kept r q k c.args.side.now.found c.requires.found in
    search rules

pub walk_argument-returns-in_err-argument-clause-gives : goal.walk_argument-returns-in_err-argument-clause-gives
walk_argument-returns-in_err-argument-clause-gives g t c =
    let S = entries_of c.args.version.now in
    let D = g.R.Reducer.denotes in
    let r = c.args.r.now in
    let q = c.into_product_under.new.r in
    let x = c.args.side.now.walk.context in
    let w = c.args.side.now.found in
    let k = c.in_ok-function.ensures.follows.keeps in
    let fn = c.in_ok-function.function in
    let f = c.in_err-argument.field-0.0 in
    let same = walked_same S (pattern c.args.argument.now) c.into_product_under.new.left (bound_types_kept r q x k c.requires.ready.context) refl (found_same r q k w c.requires.found) in
    let p = argument_fails S (bound_types D r x) f _ (D r c.args.head.term) (D r c.args.head.typ) (D q fn.domain) (D q fn.codomain) (pattern c.args.argument.now) (found_of D r w) c.args.side.now.walk.left c.into_product_under.new.left
    c.in_ok-function.ensures.gives.0 (fails_is f _ _ _ (flip same) c.in_err-argument.ensures.gives) in
    search rules

pub walk_argument-returns-clause-gives : goal.walk_argument-returns-clause-gives
walk_argument-returns-clause-gives g t c =
    let S = entries_of c.args.version.now in
    let D = g.R.Reducer.denotes in
    let r = c.args.r.now in
    let q = c.into_product_under.new.r in
    let s = c.walk.new.r in
    let end = c.apply.new.r in
    let x = c.args.side.now.walk.context in
    let w = c.args.side.now.found in
    let after = c.walk.new.side.found in
    let n = c.walk.new.side.walk.left in
    let k = c.in_ok-function.ensures.follows.keeps in
    let j = c.in_ok-argument.ensures.continues.keeps in
    let fn = c.in_ok-function.function in
    let argument = c.in_ok-argument.argument in
    let given = c.in_ok-argument.ensures.gives in
    let l = c.in_ok-apply.ensures.keeps in
    let head = c.in_ok-apply.ensures.head in
    let term = c.args.head.term in
    let a : Walked = record { term = D s argument; typ = D q fn.domain; found = found_of D s after } in
    let same = walked_same S (pattern c.args.argument.now) c.into_product_under.new.left (bound_types_kept r q x k c.requires.ready.context) refl (found_same r q k w c.requires.found) in (
      argument_given S (bound_types D r x) (D r term) (D r c.args.head.typ) (D q fn.domain) (D q fn.codomain) (pattern c.args.argument.now) (found_of D r w) a c.args.side.now.walk.left c.into_product_under.new.left n
          c.in_ok-function.ensures.gives.0 (flip same ∙ given.0)
          ∙ ap (λ y. answer y n) (headed_same
          (flip (head.term ∙ ap (λ y. apply y (D s argument)) (j.same term (k.own term c.requires.head.term) ∙ k.same term c.requires.head.term)))
          (flip (head.typ ∙ ap (λ y. substitute 0 (D s argument) y) (j.same fn.codomain c.in_ok-function.ensures.gives.2)))
          (flip (found_same s end l after given.2))),
      head.own,
      head.own_typ,
      found_kept s end l after given.2,
    )

-- a head with its patterns against a type

pub walk_headed-returns-clause-gives : goal.walk_headed-returns-clause-gives
walk_headed-returns-clause-gives g t c =
    let S = entries_of c.args.version.now in
    let D = g.R.Reducer.denotes in
    let r = c.args.r.now in
    let s = c.walk_spine.new.r in
    let end = c.expect.new.r in
    let x = c.args.side.now.walk.context in
    let w = c.args.side.now.found in
    let after = c.walk_spine.new.side.found in
    let last = c.expect.new.side.found in
    let n = c.expect.new.side.walk.left in
    let term = c.in_ok-term.field-0.term in
    let typ = c.in_ok-term.field-0.typ in
    let given = c.in_ok-term.ensures.gives in
    let k = c.in_ok-term.ensures.continues.keeps in
    let l = c.in_ok-expect.ensures.continues.keeps in
    let a : Walked = record { term = D s term; typ = D s typ; found = found_of D s after } in (
      expected_given S (bound_types D r x) (D r c.args.application.head.term) (D r c.args.application.head.typ) (D r c.args.expected.now) (plain_patterns c.args.application.arguments.now) (found_of D r w) a (terms_of D end last.bindings)
          c.args.side.now.walk.left c.walk_spine.new.side.walk.left n
          given.0 (ap (λ y. solved S (terms_of D s after.bindings) (D s typ) y c.walk_spine.new.side.walk.left) (flip (k.same c.args.expected.now c.requires.expected)) ∙ c.in_ok-expect.ensures.gives.0)
          ∙ ap (λ y. answer y n) (same_walked (flip (l.same term given.1)) (flip (rebound_same s end l after last given.3 c.in_ok-expect.ensures.rebound))),
      l.own term given.1,
      rebound_owned s end l after last given.3 c.in_ok-expect.ensures.rebound c.in_ok-expect.ensures.gives.1,
    )

pub walk_headed-returns-in_err-expect-clause-gives : goal.walk_headed-returns-in_err-expect-clause-gives
walk_headed-returns-in_err-expect-clause-gives g t c =
    let S = entries_of c.args.version.now in
    let D = g.R.Reducer.denotes in
    let r = c.args.r.now in
    let s = c.walk_spine.new.r in
    let after = c.walk_spine.new.side.found in
    let term = c.in_ok-term.field-0.term in
    let typ = c.in_ok-term.field-0.typ in
    let given = c.in_ok-term.ensures.gives in
    let k = c.in_ok-term.ensures.continues.keeps in
    let f = c.in_err-expect.field-0.0 in
    let a : Walked = record { term = D s term; typ = D s typ; found = found_of D s after } in
    let same = ap (λ y. solved S (terms_of D s after.bindings) (D s typ) y c.walk_spine.new.side.walk.left) (flip (k.same c.args.expected.now c.requires.expected)) in
    let p = expected_compared_fails S (bound_types D r c.args.side.now.walk.context) f _ (D r c.args.application.head.term) (D r c.args.application.head.typ) (D r c.args.expected.now) (plain_patterns c.args.application.arguments.now) (found_of D r c.args.side.now.found) a
    c.args.side.now.walk.left c.walk_spine.new.side.walk.left given.0 (fails_is f _ _ _ same c.in_err-expect.ensures.gives) in
    search rules

-- a spine

pub walk_spine-walk_argument-requires : goal.walk_spine-walk_argument-requires
walk_spine-walk_argument-requires g t c =
    let i = c.loop-argument.invariant in
    let s = first_smaller c.in-Some.argument.now c.loop-argument.rest.now c.in-Some.others.now (patterns_size (plain_patterns c.args.application.arguments.now)) c.in-Some.ensures.cases.0 i.smaller in
    let x = context_moved c.args.r.now c.loop-argument.r i.continues.keeps c.args.side.now.walk.context c.loop-argument.side.walk.context c.requires.ready.context i.continues.context in
    search rules

pub walk_spine-returns-in_err-walked-clause-gives : goal.walk_spine-returns-in_err-walked-clause-gives
walk_spine-returns-in_err-walked-clause-gives g t c =
    let S = entries_of c.args.version.now in
    let D = g.R.Reducer.denotes in
    let r = c.args.r.now in
    let at = c.loop-argument.r in
    let x = c.args.side.now.walk.context in
    let i = c.loop-argument.invariant in
    let f = c.in_err-walked.field-0.0 in
    let h = c.loop-argument.walked in
    let n = c.loop-argument.side.walk.left in
    let p = c.in-Some.argument.now in
    let v = found_of D at c.loop-argument.side.found in
    let same = argument_same S (D at h.term) (D at h.typ) (pattern p) v n (bound_types_moved r at i.continues.keeps x c.loop-argument.side.walk.context c.requires.ready.context i.continues.context) in
    let q = fails_is f _ _ _ (flip i.same) (spine_fails S (bound_types D r x) f _ (D at h.term) (D at h.typ) p c.loop-argument.rest.now c.in-Some.others.now v n c.in-Some.ensures.cases.0
    (fails_is f _ _ _ (flip same) c.in_err-walked.ensures.gives)) in
    search rules

pub walk_spine-loop-argument-preserved : goal.walk_spine-loop-argument-preserved
walk_spine-loop-argument-preserved g t c =
    let S = entries_of c.args.version.now in
    let D = g.R.Reducer.denotes in
    let r = c.args.r.now in
    let at = c.loop-argument.r in
    let new = c.walk_argument.new.r in
    let x = c.args.side.now.walk.context in
    let i = c.loop-argument.invariant in
    let h = c.loop-argument.walked in
    let n = c.loop-argument.side.walk.left in
    let p = c.in-Some.argument.now in
    let v = found_of D at c.loop-argument.side.found in
    let walked = c.in_ok-walked.walked in
    let given = c.in_ok-walked.ensures.gives in
    let a : Walked = record { term = D new walked.term; typ = D new walked.typ; found = found_of D new c.walk_argument.new.side.found } in
    let same = argument_same S (D at h.term) (D at h.typ) (pattern p) v n (bound_types_moved r at i.continues.keeps x c.loop-argument.side.walk.context c.requires.ready.context i.continues.context) in
    record {
      same = spine_given S (bound_types D r x) (D at h.term) (D at h.typ) p c.loop-argument.rest.now c.in-Some.others.now v a n c.walk_argument.new.side.walk.left c.in-Some.ensures.cases.0 (flip same ∙ given.0) ∙ i.same;
      walked = record { term = given.1; typ = given.2 };
      found = given.3;
      continues = continues_further r at new c.args.side.now.walk c.loop-argument.side.walk c.walk_argument.new.side.walk i.continues c.in_ok-walked.ensures.continues;
      smaller = others_smaller p c.loop-argument.rest.now c.in-Some.others.now (patterns_size (plain_patterns c.args.application.arguments.now)) c.in-Some.ensures.cases.0 i.smaller;
    }

pub walk_argument-apply-requires-clause-term : goal.walk_argument-apply-requires-clause-term
walk_argument-apply-requires-clause-term g t c = c.in_ok-argument.ensures.continues.keeps.own c.args.head.term (c.in_ok-function.ensures.follows.keeps.own c.args.head.term c.requires.head.term)

pub walk_argument-apply-requires-clause-codomain : goal.walk_argument-apply-requires-clause-codomain
walk_argument-apply-requires-clause-codomain g t c = c.in_ok-argument.ensures.continues.keeps.own c.in_ok-function.function.codomain c.in_ok-function.ensures.gives.2

pub walk_headed-expect-requires-clause-typ : goal.walk_headed-expect-requires-clause-typ
walk_headed-expect-requires-clause-typ g t c = c.in_ok-term.ensures.gives.2

pub walk_headed-expect-requires-clause-expected : goal.walk_headed-expect-requires-clause-expected
walk_headed-expect-requires-clause-expected g t c = c.in_ok-term.ensures.continues.keeps.own c.args.expected.now c.requires.expected

pub walk_headed-expect-requires-clause-bindings : goal.walk_headed-expect-requires-clause-bindings
walk_headed-expect-requires-clause-bindings g t c = c.in_ok-term.ensures.gives.3.bindings

pub walk_headed-expect-requires-clause-serves : goal.walk_headed-expect-requires-clause-serves
walk_headed-expect-requires-clause-serves g t c = c.in_ok-term.ensures.continues.serving
