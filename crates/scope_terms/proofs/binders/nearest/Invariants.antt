use Rattle.scope_terms.specs.Binding.{IsTold, LeadsTo, binders}
use Rattle.scope_terms.proofs.binders.nearest.Given as goal

abbrev pub invariant-loop-step : goal.invariant-loop-step
invariant-loop-step l = record {
  leads : LeadsTo l.class (binders l.bound) l.passed (binders l.next);
  told : IsTold l.next;
}
