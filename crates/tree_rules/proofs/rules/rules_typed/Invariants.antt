use Rattle.std.proofs.Common.{◌≡◌, length, map}
use Rattle.dk_model.specs.Signatures.{plain_rule}
use Rattle.dk_model.specs.RuleTypingOver.{rules_typed}
use Rattle.signature_log.specs.Versions.{entries_of}
use Rattle.tree_rules.proofs.rules.rules_typed.Given as goal

abbrev pub invariant-loop-rest : goal.invariant-loop-rest
invariant-loop-rest g l =
    rules_typed (g.E.Evaluates.evaluator (entries_of l.fn.version)) (entries_of l.fn.version) (map plain_rule l.rest) (g.E.Evaluates.left l.evaluation)
    ≡ rules_typed (g.E.Evaluates.evaluator (entries_of l.fn.version)) (entries_of l.fn.version) (map plain_rule l.fn.rules) (g.E.Evaluates.left l.fn.evaluation)

abbrev pub decreases-loop-rest : goal.decreases-loop-rest
decreases-loop-rest g l = length l.rest
