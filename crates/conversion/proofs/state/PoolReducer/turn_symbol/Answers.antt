-- A symbol of which it is remembered that it has no rules, or a body.
use Rattle.std.proofs.Common.{refl}
use Rattle.shared_term.specs.Pools.{term}
use Rattle.signature_log.specs.Versions.{entries_of}
use Rattle.conversion.specs.declared.state.Head.TheVariants.{Stands, Unfolds}
use Rattle.conversion.specs.Reducers.{IsHead}
use Rattle.conversion.proofs.Winding.{extends_none}
use Rattle.conversion.proofs.Turning.{symbol_stands, symbol_unfolds}
use Rattle.conversion.proofs.state.PoolReducer.turn_symbol.Goals as goal

pub returns-in-Some-Stands-clause-gives : goal.returns-in-Some-Stands-clause-gives
returns-in-Some-Stands-clause-gives c =
    let h : IsHead (entries_of c.args.version.now) c.args.self.now.pool c.args.symbol Stands =
    c.requires.serves.heads.each c.args.symbol 0 Stands (rw c.in-Some-Stands.field-0-is at c.in-Some-Stands.ensures) in
    λ n. (symbol_stands (entries_of c.args.version.now) n c.args.symbol c.args.self.now.pool c.args.stack.now c.args.head c.requires.symbol h, c.requires.head)

pub returns-in-Some-Unfolds-clause-gives : goal.returns-in-Some-Unfolds-clause-gives
returns-in-Some-Unfolds-clause-gives c =
    let pool = c.args.self.now.pool in
    let h : IsHead (entries_of c.args.version.now) pool c.args.symbol (Unfolds c.in-Some-Unfolds.body) =
    c.requires.serves.heads.each c.args.symbol 0 (Unfolds c.in-Some-Unfolds.body) (rw c.in-Some-Unfolds.field-0-is at c.in-Some-Unfolds.ensures) in
    λ n. (
      symbol_unfolds (entries_of c.args.version.now) n c.args.symbol pool pool c.args.stack.now (term pool c.in-Some-Unfolds.body) c.in-Some-Unfolds.body h.1 refl (extends_none pool) c.requires.stack,
      h.0,
    )
