use Rattle.std.proofs.Common.{◌≡◌, ◌++◌, length, map}
use Rattle.dk_model.specs.Scoping.{plain_scoped_rule}
use Rattle.prune_theory.specs.Mentions.{rules_symbols}
use Rattle.prune_theory.proofs.symbols.add_rules.Given as goal

abbrev pub invariant-loop-rule : goal.invariant-loop-rule
invariant-loop-rule l = l.found.items ++ rules_symbols (map plain_scoped_rule l.rest) ≡ l.fn.found.items ++ rules_symbols (map plain_scoped_rule l.fn.rules)

abbrev pub decreases-loop-rule : goal.decreases-loop-rule
decreases-loop-rule l = length l.rest
