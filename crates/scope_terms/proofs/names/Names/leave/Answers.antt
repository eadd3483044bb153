use Rattle.std.proofs.Common.{◌∙◌, List, ap, sym, subst}
use Rattle.scope_terms.specs.Modules.{module_at, reading_of}
use Rattle.scope_terms.specs.Reading.{after_leaving}
use Rattle.scope_terms.specs.declared.modules.Entered.TheVariants.{Known}
use Rattle.scope_terms.specs.declared.modules.Place.{Place}
use Rattle.scope_terms.proofs.Readings.{AreWithin, reading_left, standing_kept}
use Rattle.scope_terms.proofs.names.Names.leave.Goals as goal

pub returns-in-Some : goal.returns-in-Some
returns-in-Some c =
    let old = c.args.self.now in
    let items = c.in-Some.ensures.items in
    reading_left old.modules c.set_standing.new.self c.pop.new.self.items c.in-Some.place old.symbols.items old.count (subst (λ (ps : List Place). AreWithin old.modules ps) items old.within) old.kept c.set_standing.ensures
    ∙ ap (λ (ps : List Place). after_leaving (reading_of old.modules ps old.symbols.items old.count)) (sym items)

pub invariant_of-self-clause-kept : goal.invariant_of-self-clause-kept
invariant_of-self-clause-kept c =
    let old = c.args.self.now in
    standing_kept old.modules c.set_standing.new.self (module_at old.modules c.in-Some.place) Known old.symbols.items c.set_standing.ensures old.kept
