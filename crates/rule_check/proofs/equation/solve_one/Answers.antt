use Rattle.std.proofs.Common.{rules, arith, ◌≤◌, ◌<◌}
use Rattle.dk_model.specs.Solving.{equation_of, solved}
use Rattle.signature_log.specs.Versions.{entries_of}
use Rattle.signature_log.proofs.Keeping.{keeps_further}
use Rattle.rule_check.specs.Founds.{terms_of}
use Rattle.rule_check.proofs.Founds.{bindings_kept, terms_kept}
use Rattle.rule_check.proofs.Solving.{one_fails, one_same, fewer_left, one_heads_fail, one_heads, one_steps, ends_here, on_ok}
use Rattle.rule_check.proofs.equation.solve_one.Goals as goal

pub returns-in_err-is_same-clause-gives : goal.returns-in_err-is_same-clause-gives
returns-in_err-is_same-clause-gives g c =
    let D = g.R.Reducer.denotes in
    let r = c.args.r.now in
    let mid = c.both_under.new.r in
    let x = c.in_ok-equation.equation in
    let u = c.in_ok-equation.ensures.under in
    let p = one_fails (entries_of c.args.version.now) (terms_of D r c.args.bindings.now) (D r c.args.equation.one) (D r c.args.equation.other) (D mid x.one) (D mid x.other) c.args.left.now u.one u.other
    c.in_err-is_same.field-0.0 _ c.in_err-is_same.ensures.gives in
    search rules

pub returns-then-branch-clause-gives : goal.returns-then-branch-clause-gives
returns-then-branch-clause-gives g c =
    let S = entries_of c.args.version.now in
    let D = g.R.Reducer.denotes in
    let r = c.args.r.now in
    let mid = c.both_under.new.r in
    let two = c.is_same.new.r in
    let b = c.args.bindings.now in
    let s = terms_of D r b in
    let x = c.in_ok-equation.equation in
    let u = c.in_ok-equation.ensures.under in
    let t = D r c.args.equation.one in
    let v = D r c.args.equation.other in
    let n = c.args.left.now in
    ends_here g.R.Reducer.owns D S r two (keeps_further r mid two c.in_ok-equation.ensures.keeps c.in_ok-is_same.ensures.follows.keeps) b (solved S s t v n) c.is_same.new.left c.new.result c.requires.bindings
    (one_same S s t v (D mid x.one) (D mid x.other) n u.one u.other _ c.is_same.new.left c.if-branch.true c.in_ok-is_same.ensures.gives) c.new.ensures.items

pub returns-then-branch-clause-fewer : goal.returns-then-branch-clause-fewer
returns-then-branch-clause-fewer g c =
    let D = g.R.Reducer.denotes in
    let mid = c.both_under.new.r in
    let x = c.in_ok-equation.equation in
    fewer_left (entries_of c.args.version.now) (D mid x.one) (D mid x.other) _ c.args.left.now c.is_same.new.left c.in_ok-is_same.ensures.gives

pub heads-requires-clause-bindings : goal.heads-requires-clause-bindings
heads-requires-clause-bindings g c =
    bindings_kept c.args.r.now c.is_same.new.r (keeps_further c.args.r.now c.both_under.new.r c.is_same.new.r c.in_ok-equation.ensures.keeps c.in_ok-is_same.ensures.follows.keeps) c.args.bindings.now c.requires.bindings

pub returns-in_err-equation-2-clause-gives : goal.returns-in_err-equation-2-clause-gives
returns-in_err-equation-2-clause-gives g c =
    let S = entries_of c.args.version.now in
    let D = g.R.Reducer.denotes in
    let r = c.args.r.now in
    let mid = c.both_under.new.r in
    let two = c.is_same.new.r in
    let b = c.args.bindings.now in
    let x = c.in_ok-equation.equation in
    let u = c.in_ok-equation.ensures.under in
    let k = c.in_ok-equation.ensures.keeps in
    let l = c.in_ok-is_same.ensures.follows.keeps in
    let p = one_heads_fail S (terms_of D r b) (D r c.args.equation.one) (D r c.args.equation.other) (D mid x.one) (D mid x.other) c.args.left.now u.one u.other
    (terms_of D two b) (D two x.one) (D two x.other) _ c.is_same.new.left c.if-branch.false c.in_ok-is_same.ensures.gives (terms_kept r two (keeps_further r mid two k l) b c.requires.bindings) (l.same x.one u.own.one) (l.same x.other u.own.other)
    c.in_err-equation-2.field-0.0 _ c.in_err-equation-2.ensures.gives in
    search rules

pub step-requires-clause-bindings : goal.step-requires-clause-bindings
step-requires-clause-bindings g c =
    let r = c.args.r.now in
    let mid = c.both_under.new.r in
    let two = c.is_same.new.r in
    let end = c.heads.new.r in
    bindings_kept r end (keeps_further r two end (keeps_further r mid two c.in_ok-equation.ensures.keeps c.in_ok-is_same.ensures.follows.keeps) c.in_ok-equation-2.ensures.follows.keeps) c.args.bindings.now c.requires.bindings

pub returns-clause-gives : goal.returns-clause-gives
returns-clause-gives g c =
    let S = entries_of c.args.version.now in
    let D = g.R.Reducer.denotes in
    let r = c.args.r.now in
    let mid = c.both_under.new.r in
    let two = c.is_same.new.r in
    let end = c.heads.new.r in
    let b = c.args.bindings.now in
    let s = terms_of D r b in
    let x = c.in_ok-equation.equation in
    let y = c.in_ok-equation-2.equation in
    let u = c.in_ok-equation.ensures.under in
    let l = c.in_ok-is_same.ensures.follows.keeps in
    let kl = keeps_further r mid two c.in_ok-equation.ensures.keeps l in
    let t = D r c.args.equation.one in
    let v = D r c.args.equation.other in
    let n = c.args.left.now in
    let i = c.heads.new.left in
    let q = terms_of D end b in
    one_steps g.R.Reducer.owns D S c.step.new.r c.step.new.bindings q (solved S s t v n) (equation_of S (D end y.one) (D end y.other)) i c.step.result
    (one_heads S s t v (D mid x.one) (D mid x.other) n u.one u.other
    (terms_of D two b) (D two x.one) (D two x.other) _ c.is_same.new.left c.if-branch.false c.in_ok-is_same.ensures.gives (terms_kept r two kl b c.requires.bindings) (l.same x.one u.own.one) (l.same x.other u.own.other)
    (D end y.one) (D end y.other) i q c.in_ok-equation-2.ensures.gives.0 (terms_kept r end (keeps_further r two end kl c.in_ok-equation-2.ensures.follows.keeps) b c.requires.bindings))
    c.step.ensures.steps

pub returns-clause-fewer : goal.returns-clause-fewer
returns-clause-fewer g c =
    let D = g.R.Reducer.denotes in
    let mid = c.both_under.new.r in
    let x = c.in_ok-equation.equation in
    let p : c.is_same.new.left < c.args.left.now = fewer_left (entries_of c.args.version.now) (D mid x.one) (D mid x.other) _ c.args.left.now c.is_same.new.left c.in_ok-is_same.ensures.gives in
    let q : c.heads.new.left ≤ c.is_same.new.left = c.in_ok-equation-2.ensures.spent in
    let h : c.heads.new.left < c.args.left.now = omega (arith, p, q) in
    on_ok c.step.result h
