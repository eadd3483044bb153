use Rattle.std.proofs.Common.{◌≡◌, ◌≤◌, ◌+◌, ◌*◌, length}
use Rattle.dk_model.specs.Signatures.{pattern}
use Rattle.tree_rules.proofs.Sizes.{pattern_size, patterns_size, plain_patterns}
use Rattle.tree_rules.specs.Founds.{walked_of}
use Rattle.tree_rules.specs.Walks.{bound_at, entries_at, spine_due}
use Rattle.tree_rules.proofs.walk.+walking.Given as goal

abbrev pub decreases-walked : goal.decreases-walked
decreases-walked g l = 4 * pattern_size (pattern l.pattern.now)

abbrev pub decreases-abstraction_walked : goal.decreases-abstraction_walked
decreases-abstraction_walked g l = 4 * pattern_size (pattern l.body.now) + 1

abbrev pub decreases-argument_walked : goal.decreases-argument_walked
decreases-argument_walked g l = 4 * pattern_size (pattern l.pattern.now) + 1

abbrev pub decreases-spine_walked : goal.decreases-spine_walked
decreases-spine_walked g l = 4 * patterns_size (plain_patterns l.patterns.now)

abbrev pub invariant-spine_walked-loop-rest : goal.invariant-spine_walked-loop-rest
invariant-spine_walked-loop-rest g l = record {
  same : spine_due (g.E.Evaluates.evaluator (entries_at l.fn.place)) (entries_at l.fn.place) (bound_at l.fn.place)
      (walked_of l.head) (plain_patterns l.rest) (g.E.Evaluates.left l.evaluation)
      ≡ spine_due (g.E.Evaluates.evaluator (entries_at l.fn.place)) (entries_at l.fn.place) (bound_at l.fn.place)
      (walked_of l.fn.head) (plain_patterns l.fn.patterns) (g.E.Evaluates.left l.fn.evaluation);
  within : patterns_size (plain_patterns l.rest) ≤ patterns_size (plain_patterns l.fn.patterns);
}

abbrev pub decreases-spine_walked-loop-rest : goal.decreases-spine_walked-loop-rest
decreases-spine_walked-loop-rest g l = length l.rest

abbrev pub decreases-headed_walked : goal.decreases-headed_walked
decreases-headed_walked g l = 4 * patterns_size (plain_patterns l.patterns.now) + 1
