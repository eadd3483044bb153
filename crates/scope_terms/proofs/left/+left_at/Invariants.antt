use Rattle.std.proofs.Common.{◌≡◌, ◌<◌, vec_len}
use Rattle.dk_model.specs.Scoping.{plain_left}
use Rattle.dk_parser.specs.RawViews.{written_pattern}
use Rattle.scope_terms.specs.Scopes.{scoped}
use Rattle.scope_terms.specs.Meanings.{left_sense}
use Rattle.scope_terms.specs.Spines.{pattern_references, pattern_size, total_pattern_size, left_spine_sense}
use Rattle.scope_terms.proofs.left.+left_at.Given as goal

abbrev pub decreases-left_at : goal.decreases-left_at
decreases-left_at l = pattern_size (written_pattern l.raw.now)

abbrev pub invariant-loop-argument : goal.invariant-loop-argument
invariant-loop-argument l = record {
  same : left_spine_sense l.fn.scope l.fn.bound (scoped (plain_left l.whole)) l.arguments.items ≡ left_sense l.fn.scope l.fn.bound l.fn.raw;
  smaller : total_pattern_size (pattern_references l.arguments.items) < pattern_size (written_pattern l.fn.raw);
}

abbrev pub decreases-loop-argument : goal.decreases-loop-argument
decreases-loop-argument l = vec_len l.arguments
