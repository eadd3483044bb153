use Rattle.std.proofs.Common.{◌≡◌, length, map}
use Rattle.dk_model.specs.RuleTypingOver.{guards_fit}
use Rattle.tree_typing.specs.Clauses.{entries, rule_types}
use Rattle.tree_typing.specs.Given.{bindings}
use Rattle.tree_rules.specs.Founds.{guard_of}
use Rattle.tree_rules.proofs.sides.guards_fit.Given as goal

abbrev pub invariant-loop-rest : goal.invariant-loop-rest
invariant-loop-rest g l =
    guards_fit (g.E.Evaluates.evaluator (entries l.fn.setting)) (entries l.fn.setting) (bindings l.fn.bindings) (rule_types l.fn.setting) (map guard_of l.rest) (g.E.Evaluates.left l.evaluation)
    ≡ guards_fit (g.E.Evaluates.evaluator (entries l.fn.setting)) (entries l.fn.setting) (bindings l.fn.bindings) (rule_types l.fn.setting) (map guard_of l.fn.guards) (g.E.Evaluates.left l.fn.evaluation)

abbrev pub decreases-loop-rest : goal.decreases-loop-rest
decreases-loop-rest g l = length l.rest
