use Rattle.std.proofs.Common.{◌≡◌, ◌++◌, length, map}
use Rattle.dk_model.specs.Signatures.{maybe_tree}
use Rattle.prune_theory.specs.Mentions.{notes_symbols}
use Rattle.prune_theory.proofs.symbols.add_notes.Given as goal

abbrev pub invariant-loop-note : goal.invariant-loop-note
invariant-loop-note l = l.found.items ++ notes_symbols (map maybe_tree l.rest) ≡ l.fn.found.items ++ notes_symbols (map maybe_tree l.fn.notes)

abbrev pub decreases-loop-note : goal.decreases-loop-note
decreases-loop-note l = length l.rest
