use Rattle.std.proofs.Common.{◌≡◌, ◌++◌, length}
use Rattle.std.specs.List.{flat_map}
use Rattle.std.specs.Prelude.{reverse}
use Rattle.dk_parser.specs.Needed.{modules_at}
use Rattle.dk_parser.proofs.needs.Needs.term.Given as goal

abbrev pub invariant-loop-last : goal.invariant-loop-last
invariant-loop-last l =
    l.self.modules.items ++ reverse (flat_map (modules_at l.term.letters) l.rest)
    ≡ l.initial.self.modules.items ++ reverse (flat_map (modules_at l.term.letters) l.term.operations)

abbrev pub decreases-loop-last : goal.decreases-loop-last
decreases-loop-last l = length l.rest
