use Rattle.std.proofs.Common.{◌≡◌, ◌++◌, length, map}
use Rattle.std.specs.List.{flat_map}
use Rattle.std.specs.Prelude.{reverse}
use Rattle.dk_parser.specs.Modules.{modules_in_note}
use Rattle.dk_parser.specs.RawViews.{written_note}
use Rattle.dk_parser.proofs.needs.Needs.notes.Given as goal

abbrev pub invariant-loop-last : goal.invariant-loop-last
invariant-loop-last l =
    l.self.modules.items ++ reverse (flat_map modules_in_note (map written_note l.rest))
    ≡ l.initial.self.modules.items ++ reverse (flat_map modules_in_note (map written_note l.notes))

abbrev pub decreases-loop-last : goal.decreases-loop-last
decreases-loop-last l = length l.rest
