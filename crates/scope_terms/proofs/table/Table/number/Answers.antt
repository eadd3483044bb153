use Rattle.std.proofs.Common.{◌∙◌, sym}
use Rattle.scope_terms.specs.Scopes.{same_spelling}
use Rattle.scope_terms.proofs.Entries.{lookup-map}
use Rattle.scope_terms.proofs.table.Table.number.Goals as goal

pub returns : goal.returns
returns c =
    c.copied.ensures ∙ c.get.ensures.value
    ∙ rw (← c.self.view_is) (sym (lookup-map (λ k. k.items) (same_spelling c.args.name.now) c.self.inside.numbers.entries))
