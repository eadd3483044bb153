use Rattle.std.proofs.Common.{◌≡◌, ◌+◌, ◌≤◌}
use Rattle.dk_parser.specs.RawViews.{written_pattern}
use Rattle.dk_parser.specs.Written.{pattern_apply}
use Rattle.scope_terms.specs.Spines.{applied_pattern, pattern_references, pattern_size, total_pattern_size}
use Rattle.scope_terms.proofs.left.spine.Given as goal

abbrev pub invariant-loop-head : goal.invariant-loop-head
invariant-loop-head l = record {
  same : applied_pattern (written_pattern l.head) (pattern_references l.arguments.items) ≡ pattern_apply (written_pattern l.fn.f) (written_pattern l.fn.a);
  smaller : pattern_size (written_pattern l.head) + total_pattern_size (pattern_references l.arguments.items) ≤ pattern_size (written_pattern l.fn.f) + pattern_size (written_pattern l.fn.a);
}
