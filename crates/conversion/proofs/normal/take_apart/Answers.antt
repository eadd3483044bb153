-- The parts wait for their normal forms whatever else waits.
use Rattle.std.proofs.Common.{ap, arith}
use Rattle.shared_term.specs.Pools.{term}
use Rattle.conversion.proofs.Waiting.{apart_argument, apart_body, apart_annotation, apart_domain, apart_head, is_leaf}
use Rattle.conversion.proofs.normal.take_apart.Goals as goal

pub loop-function-preserved : goal.loop-function-preserved
loop-function-preserved c = record {
  same = λ S due left h. rw c.in_ok-push-in-App.ensures.items (apart_argument S c.args.pool.now c.loop-function.frames.items (term c.args.pool.now c.loop-function.head)
      c.in-App.function c.in-App.argument due left c.in-App.ensures.denoted (omega (arith, c.in-App.ensures.within.1, c.loop-function.invariant.there)) (c.loop-function.invariant.same S due left h));
  there = omega (arith, c.in-App.ensures.within.0, c.loop-function.invariant.there);
}

pub returns-in-Abs-None-default : goal.returns-in-Abs-None-default
returns-in-Abs-None-default c =
    let d = rw c.in-Abs-None-default.field-0-is at c.in-Abs-None-default.ensures.denoted in
    let w = rw c.in-Abs-None-default.field-0-is at c.in-Abs-None-default.ensures.within in (
      omega (arith, w, c.loop-function.invariant.there),
      λ S due left h. rw c.in_ok-push-in-Abs-None-default.ensures.items (apart_body S c.args.pool.now c.loop-function.frames.items (term c.args.pool.now c.loop-function.head)
          c.in-Abs-None-default.body due left d (c.loop-function.invariant.same S due left h)),
    )

pub returns-in-Abs-Some-default : goal.returns-in-Abs-Some-default
returns-in-Abs-Some-default c =
    let d = rw c.in-Abs-Some-default.field-0-is at c.in-Abs-Some-default.ensures.denoted in
    let w = rw c.in-Abs-Some-default.field-0-is at c.in-Abs-Some-default.ensures.within in
    rw c.in-Abs-Some-default.field-0-is (
      omega (arith, w.0, c.loop-function.invariant.there),
      λ S due left h. rw c.in_ok-push-in-Abs-Some-default.ensures.items (apart_annotation S c.args.pool.now c.loop-function.frames.items (term c.args.pool.now c.loop-function.head)
          c.in-Abs-Some-default.annotation c.in-Abs-Some-default.body due left d (omega (arith, w.1, c.loop-function.invariant.there)) (c.loop-function.invariant.same S due left h)),
    )

pub returns-in-Prod : goal.returns-in-Prod
returns-in-Prod c = (
  omega (arith, c.in-Prod.ensures.within.0, c.loop-function.invariant.there),
  λ S due left h. rw c.in_ok-push-in-Prod.ensures.items (apart_domain S c.args.pool.now c.loop-function.frames.items (term c.args.pool.now c.loop-function.head)
      c.in-Prod.domain c.in-Prod.codomain due left c.in-Prod.ensures.denoted (omega (arith, c.in-Prod.ensures.within.1, c.loop-function.invariant.there)) (c.loop-function.invariant.same S due left h)),
)

pub returns-in-Star : goal.returns-in-Star
returns-in-Star c = (
  c.loop-function.invariant.there,
  λ S due left h. apart_head S c.args.pool.now c.loop-function.frames.items c.loop-function.head due left
      (ap is_leaf c.in-Star.ensures.denoted) (c.loop-function.invariant.same S due left h),
)

pub returns-in-Kind : goal.returns-in-Kind
returns-in-Kind c = (
  c.loop-function.invariant.there,
  λ S due left h. apart_head S c.args.pool.now c.loop-function.frames.items c.loop-function.head due left
      (ap is_leaf c.in-Kind.ensures.denoted) (c.loop-function.invariant.same S due left h),
)

pub returns-in-Sym : goal.returns-in-Sym
returns-in-Sym c = (
  c.loop-function.invariant.there,
  λ S due left h. apart_head S c.args.pool.now c.loop-function.frames.items c.loop-function.head due left
      (ap is_leaf c.in-Sym.ensures.denoted) (c.loop-function.invariant.same S due left h),
)

pub returns-in-Var : goal.returns-in-Var
returns-in-Var c = (
  c.loop-function.invariant.there,
  λ S due left h. apart_head S c.args.pool.now c.loop-function.frames.items c.loop-function.head due left
      (ap is_leaf c.in-Var.ensures.denoted) (c.loop-function.invariant.same S due left h),
)

pub returns-in-Rvar : goal.returns-in-Rvar
returns-in-Rvar c = (
  c.loop-function.invariant.there,
  λ S due left h. apart_head S c.args.pool.now c.loop-function.frames.items c.loop-function.head due left
      (ap is_leaf c.in-Rvar.ensures.denoted) (c.loop-function.invariant.same S due left h),
)
