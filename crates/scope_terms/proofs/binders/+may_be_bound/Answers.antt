use Rattle.std.proofs.Common.{◌∙◌, ◌+◌, ◌∷◌, Some}
use Rattle.scope_terms.specs.Binding.{binders}
use Rattle.scope_terms.proofs.Binding.{number_absent, number_unnamed}
use Rattle.scope_terms.proofs.binders.+may_be_bound.Goals as goal

pub returns-in-Named : goal.returns-in-Named
returns-in-Named t c =
    let told = rw c.in-Named.is at c.requires in
    rw c.in-Named.is (λ lacks n. number_absent c.args.name.now c.in-Named.spans n (Some c.in-Named.name.now ∷ binders c.in-Named.outer.now) c.may_be.result told.0.names c.may_be.ensures lacks)

pub returns-in-Unnamed : goal.returns-in-Unnamed
returns-in-Unnamed t c =
    rw c.in-Unnamed.is (λ lacks n. number_unnamed c.args.name.now n c.in-Unnamed.field-0 (binders c.in-Unnamed.outer.now) ∙ c.may_be_bound.ensures lacks (n + c.in-Unnamed.field-0))
