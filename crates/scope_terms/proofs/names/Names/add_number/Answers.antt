use Rattle.std.proofs.Common.{List, sym, subst}
use Rattle.std.specs.Prelude.{Option}
use Rattle.scope_terms.specs.declared.spelt.Symbol.{Symbol}
use Rattle.scope_terms.proofs.Readings.{AreKept, none_kept}
use Rattle.scope_terms.proofs.names.Names.add_number.Goals as goal

pub invariant_of-self-2-clause-kept : goal.invariant_of-self-2-clause-kept
invariant_of-self-2-clause-kept c =
    let old = c.args.self.now in
    subst (λ (ss : List (Option Symbol)). AreKept old.modules ss) (sym c.in_ok-push.ensures.items) (none_kept old.modules old.symbols.items old.kept)
