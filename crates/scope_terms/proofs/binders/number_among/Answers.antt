use Rattle.std.proofs.Common.{◌∙◌, ap, sym, ◌∷◌}
use Rattle.std.specs.Prelude.{Some}
use Rattle.scope_terms.specs.Scopes.{binds, number_from}
use Rattle.scope_terms.specs.Binding.{binders}
use Rattle.scope_terms.proofs.Binding.{number_absent, number_unnamed}
use Rattle.scope_terms.proofs.binders.number_among.Goals as goal

pub loop-rest-preserved-in-Unnamed : goal.loop-rest-preserved-in-Unnamed
loop-rest-preserved-in-Unnamed c =
    let outer = binders c.in-Unnamed.outer.now in
    record {
      same = ap (λ m. number_from m (binds c.args.name.now) outer) c.in_ok-at-in-Unnamed.ensures
          ∙ sym (number_unnamed c.args.name.now c.loop-rest.at c.in-Unnamed.count outer)
          ∙ rw c.in-Unnamed.is at c.loop-rest.invariant.same;
      told = rw c.in-Unnamed.is at c.loop-rest.invariant.told;
    }

pub returns-then-not-may_be : goal.returns-then-not-may_be
returns-then-not-may_be c =
    let told = rw c.in-Named.is at c.loop-rest.invariant.told in
    let same = rw c.in-Named.is at c.loop-rest.invariant.same in
    sym (number_absent c.args.name.now c.in-Named.spans c.loop-rest.at (Some c.in-Named.binder.now ∷ binders c.in-Named.outer.now) c.may_be.result told.0.names c.may_be.ensures c.if-not-may_be.true) ∙ same
