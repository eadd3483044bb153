use Rattle.std.proofs.Common.{◌∙◌}
use Rattle.scope_terms.specs.Binding.{binders}
use Rattle.scope_terms.proofs.Binding.{leads_named, leads_unnamed}
use Rattle.scope_terms.proofs.binders.nearest.Goals as goal
use Rattle.scope_terms.proofs.binders.nearest.Goals.{in-Unnamed+in_ok-passed-in-Unnamed, in-Named+else-other-class+in_ok-passed-in-Named}

pub loop-step-preserved : goal.loop-step-preserved
loop-step-preserved c =
    let class = c.args.class in
    let passed = c.loop-step.passed in
    let bound = binders c.args.bound.now in
    elim c.match-next.branch [
      | in-Unnamed+in_ok-passed-in-Unnamed w ↦
          let leads = rw w.in-Unnamed.is at c.loop-step.invariant.leads in
          let told = rw w.in-Unnamed.is at c.loop-step.invariant.told in
          rw (w.next-is, w.passed-is, w.in_ok-passed-in-Unnamed.ensures) (record {
            leads = leads_unnamed class passed w.in-Unnamed.count bound (binders w.in-Unnamed.outer.now) leads;
            told = told;
          })
      | in-Named+else-other-class+in_ok-passed-in-Named w ↦
          let leads = rw w.in-Named.is at c.loop-step.invariant.leads in
          let told = rw w.in-Named.is at c.loop-step.invariant.told in
          rw (w.next-is, w.passed-is, w.in_ok-passed-in-Named.ensures) (record {
            leads = leads_named class passed w.in-Named.name.now bound (binders w.in-Named.outer.now) (λ same. w.if-other-class.false (told.0.own ∙ same)) leads;
            told = told.1;
          })
    ]
