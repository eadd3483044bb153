use Rattle.std.proofs.Common.{◌∙◌, ap, sym, refl, subst}
use Rattle.std.specs.Prelude.{Some}
use Rattle.indexmap.specs.IndexMap.{insert_entry}
use Rattle.scope_terms.specs.Scopes.{same_spelling}
use Rattle.scope_terms.specs.Reading.{module_of}
use Rattle.scope_terms.specs.Modules.{IsWithin, module_at}
use Rattle.scope_terms.specs.declared.modules.Place.TheVariants.{Named}
use Rattle.scope_terms.proofs.Known.{found_at, made_here, made_known, made_places, made_within, none_here}
use Rattle.scope_terms.proofs.modules.Modules.place.Goals as goal

pub returns-in-Some-get_full-clause-place : goal.returns-in-Some-get_full-clause-place
returns-in-Some-get_full-clause-place c =
    let e = c.in-Some-get_full.ensures in
    found_at c.as_bytes.result.now c.args.self.now.named.entries c.in-Some-get_full.at _ _ e.key e.entry ∙ ap Some c.as_bytes.ensures.value ∙ sym (ap module_of c.in-Some.is)

pub returns-clause-known : goal.returns-clause-known
returns-clause-known c =
    let ms = c.args.self.now in
    let named = c.in_ok-name.ensures.items_if_clones_equal (λ x y e. e) ∙ c.as_bytes-2.ensures.value in
    let none = none_here ms.named.entries c.as_bytes.result.now _ c.in_default-get_full.ensures.key (named ∙ sym c.as_bytes.ensures.value) in
    let inserted = c.in_ok-insert.ensures.entries ∙ ap (insert_entry (λ a b. same_spelling a.items b.items) ms.named.entries c.in_ok-name.name) c.unentered.ensures in
    made_known ms (record { named = c.insert.new.self; nameless = ms.nameless }) c.in_ok-name.name none refl inserted

pub returns-clause-places : goal.returns-clause-places
returns-clause-places c =
    let ms = c.args.self.now in
    let named = c.in_ok-name.ensures.items_if_clones_equal (λ x y e. e) ∙ c.as_bytes-2.ensures.value in
    let none = none_here ms.named.entries c.as_bytes.result.now _ c.in_default-get_full.ensures.key (named ∙ sym c.as_bytes.ensures.value) in
    let inserted = c.in_ok-insert.ensures.entries ∙ ap (insert_entry (λ a b. same_spelling a.items b.items) ms.named.entries c.in_ok-name.name) c.unentered.ensures in
    made_places ms (record { named = c.insert.new.self; nameless = ms.nameless }) c.in_ok-name.name none refl inserted

pub returns-clause-within : goal.returns-clause-within
returns-clause-within c =
    let ms = c.args.self.now in
    let named = c.in_ok-name.ensures.items_if_clones_equal (λ x y e. e) ∙ c.as_bytes-2.ensures.value in
    let none = none_here ms.named.entries c.as_bytes.result.now _ c.in_default-get_full.ensures.key (named ∙ sym c.as_bytes.ensures.value) in
    let inserted = c.in_ok-insert.ensures.entries ∙ ap (insert_entry (λ a b. same_spelling a.items b.items) ms.named.entries c.in_ok-name.name) c.unentered.ensures in
    subst (λ n. IsWithin (record { named = c.insert.new.self; nameless = ms.nameless }) (Named n)) (sym c.len-at.ensures.len)
    (made_within ms (record { named = c.insert.new.self; nameless = ms.nameless }) c.in_ok-name.name none refl inserted)

pub returns-clause-place : goal.returns-clause-place
returns-clause-place c =
    let ms = c.args.self.now in
    let named = c.in_ok-name.ensures.items_if_clones_equal (λ x y e. e) ∙ c.as_bytes-2.ensures.value in
    let none = none_here ms.named.entries c.as_bytes.result.now _ c.in_default-get_full.ensures.key (named ∙ sym c.as_bytes.ensures.value) in
    let inserted = c.in_ok-insert.ensures.entries ∙ ap (insert_entry (λ a b. same_spelling a.items b.items) ms.named.entries c.in_ok-name.name) c.unentered.ensures in
    ap (λ n. module_at (record { named = c.insert.new.self; nameless = ms.nameless }) (Named n)) c.len-at.ensures.len
    ∙ made_here ms (record { named = c.insert.new.self; nameless = ms.nameless }) c.in_ok-name.name none refl inserted
    ∙ ap Some named ∙ sym (ap module_of c.in-Some.is)
