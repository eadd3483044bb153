use Rattle.std.proofs.Common.{arith, rules, refl}
use Rattle.shared_term.specs.Pools.{term}
use Rattle.signature_log.specs.Versions.{entries_of}
use Rattle.conversion.proofs.Waiting.{normal_costs}
use Rattle.conversion.proofs.state.PoolReducer.meet_part.Goals as goal

pub returns-then-left-found-clause-gives : goal.returns-then-left-found-clause-gives
returns-then-left-found-clause-gives c =
    let h = c.requires.serves.normals.each c.args.part.0 0 c.in-Some.found (search rules) in (h.takes.ends c.args.left.now c.if-left-found.true, refl)

pub returns-else-left-found-clause-gives : goal.returns-else-left-found-clause-gives
returns-else-left-found-clause-gives c =
    let h = c.requires.serves.normals.each c.args.part.0 0 c.in-Some.found (search rules) in (h.takes.suffices c.args.left.now (omega (arith, c.if-left-found.false)), h.gives)

pub returns-else-left-found-clause-turned : goal.returns-else-left-found-clause-turned
returns-else-left-found-clause-turned c =
    let h = c.requires.serves.normals.each c.args.part.0 0 c.in-Some.found (search rules) in
    let k = normal_costs (entries_of c.args.version.now) c.in-Some.found.units (term c.args.self.now.pool c.args.part) (term c.args.self.now.pool c.in-Some.found.id) h.takes in
    omega (arith, k, c.if-left-found.false)
