use Rattle.std.proofs.Common.{◌≡◌, None, replicate}
use Rattle.rule_check.proofs.found.Found.new.Given as goal

abbrev pub invariant-loop : goal.invariant-loop
invariant-loop g l = l.types.items ≡ replicate l.counter None
