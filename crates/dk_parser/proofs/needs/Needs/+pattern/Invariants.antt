use Rattle.std.proofs.Common.{◌≡◌, ◌≤◌, ◌++◌}
use Rattle.std.specs.Prelude.{reverse}
use Rattle.dk_parser.specs.Modules.{modules_in_pattern}
use Rattle.dk_parser.specs.RawViews.{written_pattern}
use Rattle.dk_parser.proofs.Sizes.{pattern_size}
use Rattle.dk_parser.proofs.needs.Needs.+pattern.Given as goal

abbrev pub decreases-pattern : goal.decreases-pattern
decreases-pattern l = pattern_size (written_pattern l.pattern.now)

abbrev pub invariant-loop-front : goal.invariant-loop-front
invariant-loop-front l = record {
  owes : l.self.modules.items ++ reverse (modules_in_pattern (written_pattern l.front)) ≡ l.initial.self.modules.items ++ reverse (modules_in_pattern (written_pattern l.fn.pattern));
  smaller : pattern_size (written_pattern l.front) ≤ pattern_size (written_pattern l.fn.pattern);
}
