use Rattle.std.proofs.Common.{◌≡◌, length}
use Rattle.prune_theory.specs.Before.{all_below}
use Rattle.prune_theory.proofs.before.all_below.Given as goal

abbrev pub invariant-loop-symbol : goal.invariant-loop-symbol
invariant-loop-symbol l = all_below l.place l.rest ≡ all_below l.fn.place l.fn.symbols

abbrev pub decreases-loop-symbol : goal.decreases-loop-symbol
decreases-loop-symbol l = length l.rest
