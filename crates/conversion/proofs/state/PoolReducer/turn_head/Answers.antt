-- The turn of a symbol, by that of its rules.
use Rattle.std.proofs.Common.{◌<◌, ◌-◌, List, Ok, subst, arith}
use Rattle.dk_model.specs.Signatures.{PlainSignature}
use Rattle.shared_term.specs.declared.id.TermId.{TermId}
use Rattle.signature_log.specs.Versions.{entries_of}
use Rattle.conversion.specs.Machine.{behind}
use Rattle.conversion.specs.Turning.{TurnsTo, rule_due}
use Rattle.conversion.proofs.Turning.{turn_symbol}
use Rattle.conversion.proofs.state.PoolReducer.turn_head.Goals as goal

pub returns-in_ok-turn-in-Sym-clause-gives : goal.returns-in_ok-turn-in-Sym-clause-gives
returns-in_ok-turn-in-Sym-clause-gives c =
    let S : PlainSignature = entries_of c.args.version.now in
    let l : 0 < c.args.left.now = omega (arith, c.if-left-eq0.false) in
    let h : TurnsTo S (rule_due S c.in-Sym.k (behind c.args.self.now.pool c.args.stack.now.items) (c.args.left.now - 1)) c.turn_symbol.new.self.pool (Ok c.in_ok-turn-in-Sym.turn) c.args.stack.now.items (c.args.left.now - 1) =
    subst (λ (ids : List TermId). TurnsTo S (rule_due S c.in-Sym.k (behind c.args.self.now.pool ids) (c.args.left.now - 1)) c.turn_symbol.new.self.pool (Ok c.in_ok-turn-in-Sym.turn) ids (c.args.left.now - 1))
    c.as_slice.ensures.value (c.in_ok-turn-in-Sym.ensures.gives (c.args.left.now - 1)) in
    turn_symbol S c.args.left.now c.in-Sym.k c.args.self.now.pool c.turn_symbol.new.self.pool c.args.stack.now.items c.args.stack.now.items c.args.head (Ok c.in_ok-turn-in-Sym.turn) l c.in-Sym.ensures.denoted h
