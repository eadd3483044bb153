use Rattle.std.proofs.Common.{◌≡◌, ◌+◌, ◌-◌, length}
use Rattle.rule_check.specs.Bindings.{with_term}
use Rattle.rule_check.proofs.bindings.put.Given as goal

abbrev pub invariant-loop-terms : goal.invariant-loop-terms
invariant-loop-terms g l = with_term l.terms.items l.fn.number l.fn.term ≡ with_term l.fn.terms.items l.fn.number l.fn.term

abbrev pub decreases-loop-terms : goal.decreases-loop-terms
decreases-loop-terms g l = l.fn.number + 1 - length l.terms.items
