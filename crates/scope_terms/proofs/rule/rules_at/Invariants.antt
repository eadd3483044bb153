use Rattle.std.proofs.Common.{◌≡◌, map, drop}
use Rattle.dk_model.specs.Scoping.{plain_scoped_rule}
use Rattle.dk_parser.specs.RawViews.{written_rule}
use Rattle.scope_terms.specs.Scopes.{rules_of}
use Rattle.scope_terms.specs.Names.{reading}
use Rattle.scope_terms.specs.Reading.{own_names}
use Rattle.scope_terms.proofs.Stages.{behind}
use Rattle.scope_terms.proofs.rule.rules_at.Given as goal

abbrev pub invariant-loop-rule : goal.invariant-loop-rule
invariant-loop-rule l =
    rules_of (reading l.names).symbols (own_names (reading l.names)) (map written_rule l.rules)
    ≡ behind (map plain_scoped_rule l.scoped) (rules_of (reading l.names).symbols (own_names (reading l.names)) (map written_rule (drop l.rule-index l.rules)))
