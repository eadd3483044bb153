use Rattle.std.proofs.Common.{◌∙◌, ap, if◌then◌else◌}
use Rattle.scope_terms.specs.Scopes.{with_name}
use Rattle.scope_terms.specs.Names.{reading}
use Rattle.scope_terms.specs.Reading.{own_names}
use Rattle.scope_terms.proofs.Contexts.{new_before, notes_step, variables_step, notes_fault}
use Rattle.scope_terms.proofs.rule.context_at.Goals as goal

pub loop-entry-preserved : goal.loop-entry-preserved
loop-entry-preserved c =
    let added = c.in_ok-added.ensures.ok ∙ ap (λ b. if b then with_name c.loop-entry.variables c.entry-item.result.name else c.loop-entry.variables) c.if-not-added.false in
    record {
      notes = notes_step (reading c.args.names.now).symbols (own_names (reading c.args.names.now)) c.loop-entry.variables _ c.args.context.now c.loop-entry.entry-index c.entry-item.result c.loop-entry-test.true c.entry-item.is added
          _ c.loop-entry.notes _ c.in-Ok.note c.loop-entry.invariant.notes (new_before _ _ c.in_ok-added.ensures.is_new c.if-not-added.false) c.in-Ok.ensures.ok c.in_ok-push.ensures.ok;
      variables = variables_step (reading c.args.names.now).symbols (own_names (reading c.args.names.now)) _ _ c.args.context.now c.loop-entry.entry-index c.entry-item.result c.loop-entry-test.true c.entry-item.is added _ c.loop-entry.invariant.variables;
    }

pub returns-in-Err-clause-refused : goal.returns-in-Err-clause-refused
returns-in-Err-clause-refused c =
    notes_fault (reading c.args.names.now).symbols (own_names (reading c.args.names.now)) c.loop-entry.variables c.args.context.now c.loop-entry.entry-index c.entry-item.result c.loop-entry-test.true c.entry-item.is
    _ c.loop-entry.notes c.in-Err.fault c.first_fault.result c.loop-entry.invariant.notes c.in-Err.ensures.refused c.first_fault.ensures
