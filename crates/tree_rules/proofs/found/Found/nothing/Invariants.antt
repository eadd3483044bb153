use Rattle.std.proofs.Common.{◌≡◌, None, replicate}
use Rattle.tree_rules.proofs.found.Found.nothing.Given as goal

abbrev pub invariant-loop : goal.invariant-loop
invariant-loop l = l.types.items ≡ replicate l.counter None
