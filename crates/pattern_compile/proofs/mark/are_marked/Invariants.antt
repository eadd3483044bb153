use Rattle.std.proofs.Common.{◌≡◌, drop, map}
use Rattle.dk_model.specs.Signatures.{maybe_tree}
use Rattle.pattern_compile.specs.Marks.{are_marked}
use Rattle.pattern_compile.proofs.mark.are_marked.Given as goal

abbrev pub invariant-loop-note : goal.invariant-loop-note
invariant-loop-note l =
    are_marked l.marks (map maybe_tree l.notes) ≡ are_marked l.marks (map maybe_tree (drop l.note-index l.notes))
