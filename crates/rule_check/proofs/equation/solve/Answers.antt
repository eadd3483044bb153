use Rattle.std.proofs.Common.{rules, arith, ◌≤◌, ◌∙◌, [], ◌∷◌, ap, sym as flip, subst}
use Rattle.dk_model.specs.Solving.{each_solved, solved}
use Rattle.signature_log.specs.Versions.{entries_of}
use Rattle.rule_check.specs.Founds.{terms_of}
use Rattle.rule_check.specs.Equations.{pending, OwnsEquations}
use Rattle.rule_check.proofs.Continuing.{follows_further}
use Rattle.rule_check.proofs.Solving.{equations_last, equations_front, equations_kept, equations_appended, pending_kept, pending_pushed, pending_step, last_fails}
use Rattle.rule_check.proofs.equation.solve.Goals as goal

pub solve_one-requires-in-Some-clause-own : goal.solve_one-requires-in-Some-clause-own
solve_one-requires-in-Some-clause-own g c =
    equations_last g.R.Reducer.owns c.loop-equation.r c.pop.new.self.items c.in-Some.equation (subst (OwnsEquations g.R.Reducer.owns c.loop-equation.r) c.in-Some.ensures.items c.loop-equation.invariant.pending)

pub returns-in_err-parts-clause-gives : goal.returns-in_err-parts-clause-gives
returns-in_err-parts-clause-gives g c =
    let D = g.R.Reducer.denotes in
    let at = c.loop-equation.r in
    let i = c.loop-equation.invariant in
    let p = last_fails D (entries_of c.args.version.now) at c.loop-equation.pending.items c.pop.new.self.items c.in-Some.equation (terms_of D at c.loop-equation.bindings) c.loop-equation.left c.in_err-parts.field-0.0 _ _ i.same c.in-Some.ensures.items
    c.in_err-parts.ensures.gives in
    search rules

pub loop-equation-preserved : goal.loop-equation-preserved
loop-equation-preserved g c =
    let S = entries_of c.args.version.now in
    let owns = g.R.Reducer.owns in
    let D = g.R.Reducer.denotes in
    let at = c.loop-equation.r in
    let new = c.solve_one-in-Some.new.r in
    let i = c.loop-equation.invariant in
    let e = c.in-Some.equation in
    let front = c.pop.new.self.items in
    let parts = c.in_ok-parts.parts.items in
    let n = c.loop-equation.left in
    let m = c.solve_one-in-Some.new.left in
    let s = terms_of D at c.loop-equation.bindings in
    let z = terms_of D new c.solve_one-in-Some.new.bindings in
    let given = c.in_ok-parts.ensures.gives in
    let k = c.in_ok-parts.ensures.follows.keeps in
    let items = c.in-Some.ensures.items in
    let owned = equations_front owns at front (e ∷ []) (subst (OwnsEquations owns at) items i.pending) in
    let pushed = c.in_ok-append.ensures in
    record {
      same = pending_step D S at new front parts c.append.new.equations.items e s z n m given.0 (pending_kept at new k front owned) pushed
          ∙ flip (ap (λ l. each_solved (solved S) l s n) (ap (pending D at) items ∙ pending_pushed D at front e)) ∙ i.same;
      pending = subst (OwnsEquations owns new) (flip pushed) (equations_appended owns new front parts (equations_kept at new k front owned) given.1);
      bindings = given.2;
      follows = follows_further c.args.r.now at new i.follows c.in_ok-parts.ensures.follows;
      spent = let p : m ≤ n = c.in_ok-parts.ensures.spent in let q : n ≤ c.args.left.now = i.spent in omega (arith, p, q);
    }
