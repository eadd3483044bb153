use Rattle.std.proofs.Common.{rules, subst, ◌∙◌, sym as flip}
use Rattle.std.specs.Prelude.{Ok, Err}
use Rattle.signature_log.specs.Versions.{entries_of}
use Rattle.infer_check.specs.Contexts.{bound_types}
use Rattle.infer_check.proofs.Moving.{context_moved}
use Rattle.infer_check.proofs.Judging.{fails_is}
use Rattle.rule_check.specs.Founds.{terms_of}
use Rattle.rule_check.specs.Clauses.{GivesStep}
use Rattle.rule_check.proofs.Continuing.{continues_further, rebound_further}
use Rattle.rule_check.proofs.Moving.{step_moved, step_fails, step_given}
use Rattle.rule_check.proofs.occurrence.later_type.Goals as goal

pub applied_type-requires-clause-ready : goal.applied_type-requires-clause-ready
applied_type-requires-clause-ready g c = record {
  context = context_moved c.args.r.now c.loop-first.r c.loop-first.invariant.continues.keeps c.args.side.now.walk.context c.loop-first.side.walk.context c.requires.ready.context c.loop-first.invariant.continues.context;
  serving = c.loop-first.invariant.continues.serving;
}

pub returns-in_err-typ-clause-gives : goal.returns-in_err-typ-clause-gives
returns-in_err-typ-clause-gives g c =
    let S = entries_of c.args.version.now in
    let D = g.R.Reducer.denotes in
    let r = c.args.r.now in
    let at = c.loop-first.r in
    let x = c.args.side.now.walk.context in
    let i = c.loop-first.invariant in
    let f = c.in_err-typ.field-0.0 in
    let F = D at c.loop-first.typ in
    let b = c.loop-first.side.found.bindings in
    let n = c.loop-first.side.walk.left in
    let moved = step_moved S r at x i.continues.keeps c.requires.ready.context c.applied_type.new.r c.in-Some.first.now F b c.applied_type.new.side.found.bindings n c.applied_type.new.side.walk.left (Err f)
    (subst (λ y. GivesStep g.R.Reducer.owns D S at y b c.in-Some.first.now F n c.applied_type.new.r c.applied_type.new.side.found.bindings (Err f) c.applied_type.new.side.walk.left) i.continues.context c.in_err-typ.ensures.gives) in
    let p = fails_is f _ _ _ (flip i.same) (step_fails S (bound_types D r x) f _ c.loop-first.rest.now c.in-Some.others.now c.in-Some.first.now F (terms_of D at b) n c.in-Some.ensures.cases.0 moved) in
    search rules

pub loop-first-preserved : goal.loop-first-preserved
loop-first-preserved g c =
    let S = entries_of c.args.version.now in
    let D = g.R.Reducer.denotes in
    let r = c.args.r.now in
    let at = c.loop-first.r in
    let new = c.applied_type.new.r in
    let x = c.args.side.now.walk.context in
    let i = c.loop-first.invariant in
    let F = D at c.loop-first.typ in
    let b = c.loop-first.side.found.bindings in
    let n = c.loop-first.side.walk.left in
    let m = c.applied_type.new.side.walk.left in
    let after = c.applied_type.new.side.found.bindings in
    let typ = c.in_ok-typ.typ in
    let moved = step_moved S r at x i.continues.keeps c.requires.ready.context new c.in-Some.first.now F b after n m (Ok typ)
    (subst (λ y. GivesStep g.R.Reducer.owns D S at y b c.in-Some.first.now F n new after (Ok typ) m) i.continues.context c.in_ok-typ.ensures.gives) in
    record {
      same = step_given S (bound_types D r x) c.loop-first.rest.now c.in-Some.others.now c.in-Some.first.now F (terms_of D at b) (record { typ = D new typ; bindings = terms_of D new after }) n m
          c.in-Some.ensures.cases.0 moved.0 ∙ i.same;
      typ = moved.1;
      bindings = moved.2;
      rebound = rebound_further c.args.side.now.found c.loop-first.side.found c.applied_type.new.side.found i.rebound c.in_ok-typ.ensures.rebound;
      continues = continues_further r at new c.args.side.now.walk c.loop-first.side.walk c.applied_type.new.side.walk i.continues c.in_ok-typ.ensures.continues;
    }
