-- A selection that waits, or goes on with a weak head form that is remembered.
use Rattle.std.proofs.Common.{◌<◌, List, length, refl, subst, sym as flip, arith}
use Rattle.signature_log.specs.Versions.{entries_of}
use Rattle.conversion.specs.declared.pauses.Pause.{Pause}
use Rattle.conversion.specs.Reducers.{IsValue}
use Rattle.conversion.specs.Pausing.{ArePauses}
use Rattle.conversion.proofs.Pausing.{pauses_pushed}
use Rattle.conversion.proofs.Selecting.{value_takes}
use Rattle.conversion.proofs.Evaluating.{wait_ends, wait_told, wait_asks}
use Rattle.conversion.proofs.state.PoolReducer.wait.Goals as goal

pub returns-then-left-found-clause-gives : goal.returns-then-left-found-clause-gives
returns-then-left-found-clause-gives c = λ whole due w g.
    (wait_ends (entries_of c.args.version.now) c.args.self.now.pool whole due c.args.pauses.now.items c.args.pause c.args.left.now c.requires.start w g c.in-Some.found c.in-Some.ensures c.if-left-found.true, refl)

pub returns-else-left-found-clause-gives : goal.returns-else-left-found-clause-gives
returns-else-left-found-clause-gives c = λ whole due w g.
    wait_told (entries_of c.args.version.now) c.args.self.now.pool whole due c.args.pauses.now.items c.args.pause c.args.left.now c.requires.start w g c.in-Some.found c.in-Some.ensures (omega (arith, c.if-left-found.false))

pub returns-else-left-found-clause-next : goal.returns-else-left-found-clause-next
returns-else-left-found-clause-next c = let h : IsValue (entries_of c.args.version.now) c.args.self.now.pool c.args.pause.asked.0 c.in-Some.found = c.in-Some.ensures in (c.requires.pause, h.gives)

pub returns-else-left-found-clause-less : goal.returns-else-left-found-clause-less
returns-else-left-found-clause-less c =
    let q : 0 < c.in-Some.found.units = value_takes (entries_of c.args.version.now) c.args.self.now.pool c.args.pause.asked c.in-Some.found c.in-Some.ensures in
    omega (arith, q, c.if-left-found.false)

pub returns-in_ok-push_pause-in-None-clause-gives : goal.returns-in_ok-push_pause-in-None-clause-gives
returns-in_ok-push_pause-in-None-clause-gives c = λ whole due w g.
    wait_asks (entries_of c.args.version.now) c.args.self.now.pool whole due c.args.pauses.now.items c.args.pause c.args.left.now c.requires.start w g c.push_pause.new.pauses.items c.in_ok-push_pause-in-None.ensures

pub returns-in_ok-push_pause-in-None-clause-pauses : goal.returns-in_ok-push_pause-in-None-clause-pauses
returns-in_ok-push_pause-in-None-clause-pauses c = let S = entries_of c.args.version.now in
    subst (λ (l : List Pause). ArePauses S (length c.args.self.now.pool) l) (flip c.in_ok-push_pause-in-None.ensures)
    (pauses_pushed S (length c.args.self.now.pool) c.args.pauses.now.items c.args.pause c.requires.pauses c.requires.pause)
