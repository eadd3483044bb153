use Rattle.std.proofs.Common.{◌∙◌, sym, ap, is_some, not}
use Rattle.indexmap.specs.Entry.{map_with_value}
use Rattle.scope_terms.proofs.Entries.{known, added, seen}
use Rattle.scope_terms.proofs.table.Table.add.Goals as goal

pub returns-in_default-clause-is_new : goal.returns-in_default-clause-is_new
returns-in_default-clause-is_new c =
    let there = rw c.in_default.is at c.in_ok-entry.ensures.found in
    let number = known (λ k. k.items) c.self.inside.numbers c.in_ok-spelling.spelling c.args.number _ _ c.self.view_is (c.in_ok-spelling.ensures.items_if_clones_equal (λ x y e. e) ∙ c.as_slice.ensures) in
    ap not (sym there.0) ∙ ap (λ o. not (is_some o)) (sym number)

pub returns-clause-is_new : goal.returns-clause-is_new
returns-clause-is_new c =
    let absent = rw c.in-Vacant.is at c.in_ok-entry.ensures.found in
    let number = known (λ k. k.items) c.self.inside.numbers c.in_ok-spelling.spelling c.args.number _ _ c.self.view_is (c.in_ok-spelling.ensures.items_if_clones_equal (λ x y e. e) ∙ c.as_slice.ensures) in
    ap (λ o. not (is_some o)) (sym (number ∙ absent))

pub returns-clause-ok : goal.returns-clause-ok
returns-clause-ok c =
    let absent = rw c.in-Vacant.is at c.in_ok-entry.ensures.found in
    let number = known (λ k. k.items) c.self.inside.numbers c.in_ok-spelling.spelling c.args.number _ _ c.self.view_is (c.in_ok-spelling.ensures.items_if_clones_equal (λ x y e. e) ∙ c.as_slice.ensures) in
    let u = c.in_ok-entry.ensures.update.1 c.args.number in
    let same = sym (rw c.in-Vacant.is at c.in_ok-entry.ensures.same_map) in
    let written = c.self-3-1.given.1 same ∙ ap (λ e. map_with_value e c.insert.result.now) (sym c.in-Vacant.is) ∙ ap (map_with_value c.in_ok-entry.field-0) c.insert.ensures.value in
    ap (λ m. seen (λ k. k.items) c.self.inside.numbers c.in_ok-spelling.spelling c.args.number m.entries) written
    ∙ added (λ k. k.items) c.self.inside.numbers c.in_ok-spelling.spelling c.args.number _ _ _ c.self.view_is (number ∙ absent) (c.in_ok-spelling.ensures.items_if_clones_equal (λ x y e. e) ∙ c.as_slice.ensures) u
