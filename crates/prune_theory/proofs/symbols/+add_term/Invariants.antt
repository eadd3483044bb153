use Rattle.std.proofs.Common.{◌≡◌, ◌<◌, ◌++◌, vec_len}
use Rattle.dk_model.specs.Trees.{tree}
use Rattle.dk_model.specs.Winding.{behind_references, size, total_size}
use Rattle.prune_theory.specs.Mentions.{term_symbols}
use Rattle.prune_theory.specs.Stacks.{stack_symbols}
use Rattle.prune_theory.proofs.symbols.+add_term.Given as goal

abbrev pub decreases-add_term : goal.decreases-add_term
decreases-add_term l = size (tree l.term.now)

abbrev pub invariant-loop-argument : goal.invariant-loop-argument
invariant-loop-argument l = record {
  same : l.found.items ++ stack_symbols (behind_references l.arguments.items) ≡ l.fn.found.items ++ term_symbols (tree l.fn.term);
  smaller : total_size (behind_references l.arguments.items) < size (tree l.fn.term);
}

abbrev pub decreases-loop-argument : goal.decreases-loop-argument
decreases-loop-argument l = vec_len l.arguments
