-- A node alone is a list of nodes, and it denotes what it does over none.
use Rattle.std.proofs.Common.{arith}
use Rattle.shared_term.proofs.Places.{one_spelt, one_term}
use Rattle.shared_term.proofs.stored.Stored.one.Goals as goal

pub invariant_of-result : goal.invariant_of-result
invariant_of-result c = (one_spelt c.args.node c.requires, omega arith)

pub returns : goal.returns
returns c = one_term c.args.node
