use Rattle.std.proofs.Common.{◌≡◌, map, take}
use Rattle.dk_model.specs.Signatures.{maybe_tree}
use Rattle.dk_model.specs.Bindings.{under_option}
use Rattle.tree_terms.proofs.bindings.all_under.Given as goal

abbrev pub invariant-loop-term : goal.invariant-loop-term
invariant-loop-term l = map maybe_tree l.all.items ≡ map (under_option (map maybe_tree l.bindings)) (map maybe_tree (take l.term-index l.terms))
