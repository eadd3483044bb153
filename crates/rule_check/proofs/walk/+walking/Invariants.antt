use Rattle.std.proofs.Common.{◌≡◌, ◌+◌, ◌*◌, ◌≤◌, length}
use Rattle.dk_model.specs.Signatures.{pattern}
use Rattle.dk_model.specs.RuleTyping.{spine_walked}
use Rattle.signature_log.specs.Versions.{entries_of}
use Rattle.infer_check.specs.Contexts.{bound_types}
use Rattle.infer_check.specs.Walks.{Continues}
use Rattle.rule_check.specs.Founds.{found_of, OwnsFound}
use Rattle.rule_check.specs.Given.{OwnsHeaded}
use Rattle.rule_check.proofs.Sizes.{pattern_size, patterns_size, plain_patterns}
use Rattle.rule_check.proofs.walk.+walking.Given as goal

abbrev pub decreases-walk : goal.decreases-walk
decreases-walk g l = 8 * pattern_size (pattern l.pattern.now) + 3

abbrev pub decreases-walk_abstraction : goal.decreases-walk_abstraction
decreases-walk_abstraction g l = 8 * pattern_size (pattern l.body.now) + 5

abbrev pub decreases-walk_argument : goal.decreases-walk_argument
decreases-walk_argument g l = 8 * pattern_size (pattern l.argument.now) + 4

abbrev pub decreases-walk_headed : goal.decreases-walk_headed
decreases-walk_headed g l = 8 * patterns_size (plain_patterns l.application.arguments.now) + 6

abbrev pub decreases-walk_spine : goal.decreases-walk_spine
decreases-walk_spine g l = 8 * patterns_size (plain_patterns l.application.arguments.now) + 5

abbrev pub invariant-walk_spine-loop-argument : goal.invariant-walk_spine-loop-argument
invariant-walk_spine-loop-argument g l = record {
  same : spine_walked (entries_of l.fn.version) (bound_types g.R.Reducer.denotes l.fn.r l.fn.side.walk.context) (g.R.Reducer.denotes l.r l.walked.term) (g.R.Reducer.denotes l.r l.walked.typ)
      (plain_patterns l.rest) (found_of g.R.Reducer.denotes l.r l.side.found) l.side.walk.left
      ≡ spine_walked (entries_of l.fn.version) (bound_types g.R.Reducer.denotes l.fn.r l.fn.side.walk.context) (g.R.Reducer.denotes l.fn.r l.fn.application.head.term) (g.R.Reducer.denotes l.fn.r l.fn.application.head.typ)
      (plain_patterns l.fn.application.arguments.now) (found_of g.R.Reducer.denotes l.fn.r l.fn.side.found) l.fn.side.walk.left;
  walked : OwnsHeaded g.R.Reducer.owns l.r l.walked;
  found : OwnsFound g.R.Reducer.owns g.R.Reducer.denotes l.r l.side.found;
  continues : Continues g.R.Reducer.owns g.R.Reducer.denotes g.R.Reducer.serves (entries_of l.fn.version) l.fn.r l.fn.side.walk l.r l.side.walk;
  smaller : patterns_size (plain_patterns l.rest) ≤ patterns_size (plain_patterns l.fn.application.arguments.now);
}

abbrev pub decreases-walk_spine-loop-argument : goal.decreases-walk_spine-loop-argument
decreases-walk_spine-loop-argument g l = length l.rest
