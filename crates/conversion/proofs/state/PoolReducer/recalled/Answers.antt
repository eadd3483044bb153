-- A weak head form that is remembered takes what it took.
use Rattle.std.proofs.Common.{◌<◌, ◌-◌, refl, arith}
use Rattle.signature_log.specs.Versions.{entries_of}
use Rattle.conversion.specs.Reducers.{IsValue}
use Rattle.conversion.proofs.Selecting.{value_takes}
use Rattle.conversion.proofs.state.PoolReducer.recalled.Goals as goal

pub returns-then-left-found-clause-gives : goal.returns-then-left-found-clause-gives
returns-then-left-found-clause-gives c =
    let h : IsValue (entries_of c.args.version.now) c.args.self.now.pool c.args.whole.0 c.in-Some.found = c.in-Some.ensures in
    (h.takes.ends c.args.left.now c.if-left-found.true, refl)

pub returns-else-left-found-clause-gives : goal.returns-else-left-found-clause-gives
returns-else-left-found-clause-gives c =
    let h : IsValue (entries_of c.args.version.now) c.args.self.now.pool c.args.whole.0 c.in-Some.found = c.in-Some.ensures in
    let q : 0 < c.in-Some.found.units = value_takes (entries_of c.args.version.now) c.args.self.now.pool c.args.whole c.in-Some.found h in
    (h.takes.suffices c.args.left.now (omega (arith, c.if-left-found.false)), h.gives, omega (arith, q, c.if-left-found.false))
