use Rattle.std.proofs.Common.{◌≡◌, map, take}
use Rattle.dk_model.specs.Signatures.{maybe_tree}
use Rattle.pattern_compile.proofs.rule.copied.Given as goal

abbrev pub invariant-loop-note : goal.invariant-loop-note
invariant-loop-note l = map maybe_tree l.copies ≡ map maybe_tree (take l.note-index l.notes)
