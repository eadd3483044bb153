use Rattle.std.proofs.Common.{◌≡◌, length, map}
use Rattle.dk_model.specs.Signatures.{maybe_tree}
use Rattle.dk_model.specs.RuleTypingOver.{notes_agree}
use Rattle.signature_log.specs.Versions.{entries_of}
use Rattle.tree_typing.specs.Given.{bindings}
use Rattle.tree_rules.proofs.sides.notes_agree.Given as goal

abbrev pub invariant-loop-notes : goal.invariant-loop-notes
invariant-loop-notes g l =
    notes_agree (g.E.Evaluates.evaluator (entries_of l.fn.version)) (bindings l.fn.bindings) (map maybe_tree l.notes) (map maybe_tree l.types) (g.E.Evaluates.left l.evaluation)
    ≡ notes_agree (g.E.Evaluates.evaluator (entries_of l.fn.version)) (bindings l.fn.bindings) (map maybe_tree l.fn.notes) (map maybe_tree l.fn.types) (g.E.Evaluates.left l.fn.evaluation)

abbrev pub decreases-loop-notes : goal.decreases-loop-notes
decreases-loop-notes g l = length l.notes
