use Rattle.std.proofs.Common.{◌≡◌}
use Rattle.scope_terms.specs.Scopes.{binds, number_from}
use Rattle.scope_terms.specs.Binding.{IsTold, binders}
use Rattle.scope_terms.proofs.binders.number_among.Given as goal

abbrev pub invariant-loop-rest : goal.invariant-loop-rest
invariant-loop-rest l = record {
  same : number_from l.at (binds l.fn.name) (binders l.rest) ≡ number_from 0 (binds l.fn.name) (binders l.fn.bound);
  told : IsTold l.rest;
}
