use Rattle.std.proofs.Common.{◌∙◌, arith, rules, sym, refl, true≢false}
use Rattle.shared_term.specs.Pools.{term}
use Rattle.signature_log.specs.Versions.{entries_of}
use Rattle.conversion.proofs.Comparing.{one_term, known, known_too_few, comparison_costs}
use Rattle.conversion.proofs.state.PoolReducer.meet.Goals as goal

pub returns-then-same-clause-gives : goal.returns-then-same-clause-gives
returns-then-same-clause-gives c = λ rest. one_term (entries_of c.args.version.now) c.args.left.now (term c.args.self.now.pool c.args.t) (term c.args.self.now.pool c.args.u) rest (omega (arith, c.if-left-eq0.false)) (c.same.ensures.terms.0 c.if-same.true)

pub returns-then-left-found-clause-gives : goal.returns-then-left-found-clause-gives
returns-then-left-found-clause-gives c =
    let h = c.requires.serves.answers.each c.args.t.0 c.args.u.0 c.in-Some.found (search rules) in (
      λ rest. known_too_few (entries_of c.args.version.now) c.args.left.now c.in-Some.found.units c.in-Some.found.alike (term c.args.self.now.pool c.args.t) (term c.args.self.now.pool c.args.u) rest h.takes c.if-left-found.true,
      refl,
    )

pub returns-else-left-found-clause-gives : goal.returns-else-left-found-clause-gives
returns-else-left-found-clause-gives c =
    let h = c.requires.serves.answers.each c.args.t.0 c.args.u.0 c.in-Some.found (search rules) in
    λ rest. known (entries_of c.args.version.now) c.args.left.now c.in-Some.found.units c.in-Some.found.alike (term c.args.self.now.pool c.args.t) (term c.args.self.now.pool c.args.u) rest h.takes (omega (arith, c.if-left-found.false))

pub returns-else-left-found-clause-turned : goal.returns-else-left-found-clause-turned
returns-else-left-found-clause-turned c =
    let h = c.requires.serves.answers.each c.args.t.0 c.args.u.0 c.in-Some.found (search rules) in
    let k = comparison_costs (entries_of c.args.version.now) c.in-Some.found.units c.in-Some.found.alike (term c.args.self.now.pool c.args.t) (term c.args.self.now.pool c.args.u) h.takes in
    omega (arith, k, c.if-left-found.false)

pub returns-in-None-clause-gives : goal.returns-in-None-clause-gives
returns-in-None-clause-gives c = (omega (arith, c.if-left-eq0.false), λ e. true≢false (sym (c.same.ensures.terms.1 e) ∙ c.if-same.false))
