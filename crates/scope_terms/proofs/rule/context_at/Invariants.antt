use Rattle.std.proofs.Common.{◌≡◌, map, drop}
use Rattle.dk_model.specs.Signatures.{maybe_tree}
use Rattle.dk_parser.specs.RawViews.{written_note}
use Rattle.scope_terms.specs.Scopes.{no_names, notes_of, variables_of}
use Rattle.scope_terms.specs.Names.{reading}
use Rattle.scope_terms.specs.Reading.{own_names}
use Rattle.scope_terms.proofs.Stages.{behind}
use Rattle.scope_terms.proofs.rule.context_at.Given as goal

abbrev pub invariant-loop-entry : goal.invariant-loop-entry
invariant-loop-entry l = record {
  notes : notes_of (reading l.names).symbols (own_names (reading l.names)) no_names (map written_note l.context)
      ≡ behind (map maybe_tree l.notes) (notes_of (reading l.names).symbols (own_names (reading l.names)) l.variables (map written_note (drop l.entry-index l.context)));
  variables : variables_of no_names (map written_note l.context)
      ≡ variables_of l.variables (map written_note (drop l.entry-index l.context));
}
