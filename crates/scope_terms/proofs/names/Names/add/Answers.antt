use Rattle.std.proofs.Common.{◌∙◌, ◌+◌, ◌++◌, ◌∷◌, [], ap, sym, subst, if◌then◌else◌, Bool, List}
use Rattle.std.specs.Prelude.{Option, Some, reverse}
use Rattle.scope_terms.specs.Modules.{Changes, IsWithin, first_place, known_of, module_at, reading_of, with_name_in}
use Rattle.scope_terms.specs.Reading.{with_own_name}
use Rattle.scope_terms.specs.Names.{reading}
use Rattle.scope_terms.specs.declared.spelt.Symbol.{Symbol}
use Rattle.scope_terms.proofs.Readings.{AreKept, added_kept, current_is, last_within, on_err, reading_added, reading_same}
use Rattle.scope_terms.proofs.names.Names.add.Goals as goal

pub returns-in_err-added-clause-err : goal.returns-in_err-added-clause-err
returns-in_err-added-clause-err c =
    let old = c.args.self.now in
    on_err c.from_residual-in_err-added.result _
    (ap (λ (ss : List (Option Symbol)). reading_of c.add_at.new.self old.entered.items ss old.count) c.reserve.ensures.items
    ∙ reading_same old.modules c.add_at.new.self old.entered.items old.symbols.items old.count old.within old.kept (module_at old.modules c.last_place-place.result) c.in_err-added.ensures.err)

pub returns-then-added-clause-ok : goal.returns-then-added-clause-ok
returns-then-added-clause-ok c =
    let old = c.args.self.now in
    let place = c.last_place-place.result in
    let m = module_at old.modules place in
    let last = c.last_place-place.ensures ∙ ap (λ ps. first_place (reverse ps)) c.deref.ensures.value in
    let is = ap (module_at old.modules) last ∙ sym (current_is old.modules old.entered.items old.symbols.items old.count) in
    let has = subst (λ p. IsWithin old.modules p) (sym last) (last_within old.modules old.entered.items old.within) in
    let changes = subst (λ (b : Bool). Changes old.modules c.add_at.new.self m (if b then with_name_in (known_of old.modules m) c.args.name.now old.count else known_of old.modules m)) c.if-added.true c.in_ok-added.ensures.ok in
    let kept : Symbol = record { place = place; at = c.names_at-at.result } in
    let items = c.push_reserved.ensures.items ∙ ap (λ (ss : List (Option Symbol)). ss ++ Some kept ∷ []) c.reserve.ensures.items ∙ ap (λ n. let s : Symbol = record { place = place; at = n } in old.symbols.items ++ Some s ∷ []) c.names_at-at.ensures in
    ap (λ (ss : List (Option Symbol)). reading_of c.add_at.new.self old.entered.items ss (old.count + 1)) items
    ∙ reading_added old.modules c.add_at.new.self old.entered.items old.symbols.items old.count old.within old.kept place c.args.name.now has is changes
    ∙ ap (λ b. if b then with_own_name (reading old) c.args.name.now else reading old) (sym c.if-added.true)

pub returns-else-added-clause-ok : goal.returns-else-added-clause-ok
returns-else-added-clause-ok c =
    let old = c.args.self.now in
    let m = module_at old.modules c.last_place-place.result in
    let changes = subst (λ (b : Bool). Changes old.modules c.add_at.new.self m (if b then with_name_in (known_of old.modules m) c.args.name.now old.count else known_of old.modules m)) c.if-added.false c.in_ok-added.ensures.ok in
    ap (λ (ss : List (Option Symbol)). reading_of c.add_at.new.self old.entered.items ss old.count) c.reserve.ensures.items
    ∙ reading_same old.modules c.add_at.new.self old.entered.items old.symbols.items old.count old.within old.kept m changes
    ∙ ap (λ b. if b then with_own_name (reading old) c.args.name.now else reading old) (sym c.if-added.false)

-- where the symbols stand, and where the new one
pub invariant_of-self-then-added-clause-kept : goal.invariant_of-self-then-added-clause-kept
invariant_of-self-then-added-clause-kept c =
    let old = c.args.self.now in
    let place = c.last_place-place.result in
    let m = module_at old.modules place in
    let last = c.last_place-place.ensures ∙ ap (λ ps. first_place (reverse ps)) c.deref.ensures.value in
    let has = subst (λ p. IsWithin old.modules p) (sym last) (last_within old.modules old.entered.items old.within) in
    let changes = subst (λ (b : Bool). Changes old.modules c.add_at.new.self m (if b then with_name_in (known_of old.modules m) c.args.name.now old.count else known_of old.modules m)) c.if-added.true c.in_ok-added.ensures.ok in
    let kept : Symbol = record { place = place; at = c.names_at-at.result } in
    let items = c.push_reserved.ensures.items ∙ ap (λ (ss : List (Option Symbol)). ss ++ Some kept ∷ []) c.reserve.ensures.items ∙ ap (λ n. let s : Symbol = record { place = place; at = n } in old.symbols.items ++ Some s ∷ []) c.names_at-at.ensures in
    subst (λ (ss : List (Option Symbol)). AreKept c.add_at.new.self ss) (sym items)
    (added_kept old.modules c.add_at.new.self place c.args.name.now old.count old.symbols.items has changes old.kept)
