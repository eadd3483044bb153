use Rattle.std.proofs.Common.{◌∙◌, ◌++◌, ◌∷◌, [], List, ap, sym}
use Rattle.scope_terms.specs.Modules.{module_at, reading_of}
use Rattle.scope_terms.specs.Reading.{entering, module_of}
use Rattle.scope_terms.specs.Names.{reading}
use Rattle.scope_terms.specs.declared.modules.Entered.TheVariants.{Open}
use Rattle.scope_terms.specs.declared.modules.Place.{Place}
use Rattle.scope_terms.proofs.Readings.{on_err, reading_entered, reading_kept, same_kept, standing_kept}
use Rattle.scope_terms.proofs.names.Names.enter.Goals as goal

pub returns-in_err-place-clause-err : goal.returns-in_err-place-clause-err
returns-in_err-place-clause-err c =
    let old = c.args.self.now in
    on_err c.from_residual-in_err-place.result _
    (ap (λ (ps : List Place). reading_of c.place.new.self ps old.symbols.items old.count) c.reserve.ensures.items
    ∙ reading_kept old.modules c.place.new.self old.entered.items old.symbols.items old.count old.within old.kept c.place.ensures.known c.place.ensures.places)

pub returns-in_ok-place-clause-entered : goal.returns-in_ok-place-clause-entered
returns-in_ok-place-clause-entered c =
    let old = c.args.self.now in
    let m = module_of c.args.module_name in
    let place = c.in_ok-place.place in
    let items = c.push_reserved.ensures.items ∙ ap (λ (ps : List Place). ps ++ place ∷ []) c.reserve.ensures.items in
    let stood = sym c.standing-stood.ensures ∙ c.in-New.is in
    ap (λ (ps : List Place). reading_of c.set_standing.new.self ps old.symbols.items old.count) items
    ∙ reading_entered old.modules c.place.new.self c.set_standing.new.self old.entered.items place m old.symbols.items old.count old.within old.kept c.place.ensures.known c.place.ensures.places c.in_ok-place.ensures.within c.in_ok-place.ensures.place c.set_standing.ensures
    ∙ ap (λ s. entering s (reading old) m) (sym stood)

pub invariant_of-self-in-New-clause-kept : goal.invariant_of-self-in-New-clause-kept
invariant_of-self-in-New-clause-kept c =
    let old = c.args.self.now in
    let mid = c.place.new.self in
    standing_kept mid c.set_standing.new.self (module_at mid c.in_ok-place.place) Open old.symbols.items c.set_standing.ensures
    (same_kept old.modules mid old.symbols.items c.place.ensures.known c.place.ensures.places old.kept)
