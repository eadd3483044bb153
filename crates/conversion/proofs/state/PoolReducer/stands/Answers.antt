-- What is remembered of a symbol.
use Rattle.signature_log.specs.Versions.{entries_of}
use Rattle.conversion.specs.declared.state.Head.TheVariants.{Stands}
use Rattle.conversion.specs.Reducers.{IsHead}
use Rattle.conversion.proofs.state.PoolReducer.stands.Goals as goal

pub returns-in-Some-Stands : goal.returns-in-Some-Stands
returns-in-Some-Stands c =
    let h : IsHead (entries_of c.args.version.now) c.args.self.now.pool c.args.symbol Stands =
    c.requires.heads.each c.args.symbol 0 Stands (rw c.in-Some-Stands.field-0-is at c.in-Some-Stands.ensures) in
    λ _. h
