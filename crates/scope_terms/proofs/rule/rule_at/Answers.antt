use Rattle.std.proofs.Common.{◌≡◌, List, map, subst}
use Rattle.dk_model.specs.Signatures.{maybe_tree}
use Rattle.dk_parser.specs.RawViews.{written_note, written_rule}
use Rattle.dk_parser.specs.declared.raw.RawNote.{RawNote}
use Rattle.scope_terms.specs.Scopes.{no_names, scoped, notes_of, variables_of}
use Rattle.scope_terms.specs.Names.{reading}
use Rattle.scope_terms.specs.Reading.{own_names}
use Rattle.scope_terms.proofs.Contexts.{rule_scoped}
use Rattle.scope_terms.proofs.rule.rule_at.Goals as goal

pub returns-clause-ok : goal.returns-clause-ok
returns-clause-ok c =
    let context = c.in_ok-variables.field-0 in
    rule_scoped (reading c.args.names.now).symbols (own_names (reading c.args.names.now)) context.variables (written_rule c.args.rule.now) _ _ _ _
    (subst (λ (es : List RawNote). context.variables ≡ variables_of no_names (map written_note es)) c.as_slice.ensures c.in_ok-variables.ensures.variables)
    c.count.ensures
    (subst (λ (es : List RawNote). notes_of (reading c.args.names.now).symbols (own_names (reading c.args.names.now)) no_names (map written_note es) ≡ scoped (map maybe_tree context.notes)) c.as_slice.ensures c.in_ok-variables.ensures.ok)
    c.in_ok-left.ensures.ok c.in_ok-right.ensures.ok
