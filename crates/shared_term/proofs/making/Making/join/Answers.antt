-- The places of the two parts are those of nodes.
use Rattle.shared_term.proofs.Made.{popped_made, popped_there}
use Rattle.shared_term.proofs.Parts.{joined_within}
use Rattle.shared_term.proofs.making.Making.join.Goals as goal

pub put-requires-clause-node : goal.put-requires-clause-node
put-requires-clause-node c =
    let ns = c.self.inside.nodes.items in
    let ids = c.self.inside.places.items in
    let mid = c.pop.new.self.items in
    let rest = c.pop-2.new.self.items in
    let second = c.in-Some.second in
    let first = c.in-Some-pop.first in
    rw c.joined-node.ensures
    (joined_within ns c.args.pair first second
    (popped_there ns mid rest first (popped_made ns ids mid second c.self.invariant c.in-Some.ensures.items) c.in-Some-pop.ensures.items)
    (popped_there ns ids mid second c.self.invariant c.in-Some.ensures.items))

pub put-requires-clause-made : goal.put-requires-clause-made
put-requires-clause-made c =
    let ns = c.self.inside.nodes.items in
    let ids = c.self.inside.places.items in
    let mid = c.pop.new.self.items in
    popped_made ns mid c.pop-2.new.self.items c.in-Some-pop.first
    (popped_made ns ids mid c.in-Some.second c.self.invariant c.in-Some.ensures.items) c.in-Some-pop.ensures.items
