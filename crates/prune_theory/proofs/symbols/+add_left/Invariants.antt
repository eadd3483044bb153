use Rattle.std.proofs.Common.{◌≡◌, ◌<◌, ◌++◌, vec_len}
use Rattle.dk_model.specs.Scoping.{plain_left}
use Rattle.prune_theory.specs.Mentions.{left_symbols}
use Rattle.prune_theory.specs.Stacks.{left_stack_symbols, lefts_behind, left_size, left_total}
use Rattle.prune_theory.proofs.symbols.+add_left.Given as goal

abbrev pub decreases-add_left : goal.decreases-add_left
decreases-add_left l = left_size (plain_left l.left.now)

abbrev pub invariant-loop-argument : goal.invariant-loop-argument
invariant-loop-argument l = record {
  same : l.found.items ++ left_stack_symbols (lefts_behind l.arguments.items) ≡ l.fn.found.items ++ left_symbols (plain_left l.fn.left);
  smaller : left_total (lefts_behind l.arguments.items) < left_size (plain_left l.fn.left);
}

abbrev pub decreases-loop-argument : goal.decreases-loop-argument
decreases-loop-argument l = vec_len l.arguments
