-- For proofs: the nodes of a stored term, as they stand in memory.
use Rattle.std.specs.Prelude.{List, [], ◌∷◌, map, Some, None}
use Rattle.dk_model.specs.declared.NodeOf.TheVariants as node
use Rattle.shared_term.specs.declared.id.TermId.{TermId}
use Rattle.shared_term.specs.declared.short.ShortNode.{ShortNode}
use Rattle.shared_term.specs.declared.short.ShortNode.TheVariants.{Star, Kind, Sym, Var, Rvar, App, Bare, Annotated, Prod}
use Rattle.shared_term.specs.declared.packed.Packed.{Packed}
use Rattle.shared_term.specs.declared.packed.Packed.TheVariants.{One, Short, Full}
use Rattle.shared_term.specs.Pools.{Node}

-- the node that a short one stands for
abbrev pub full_node : ShortNode → Node
full_node Star = node.Star
full_node Kind = node.Kind
full_node (Sym k) = node.Sym k
full_node (Var k) = node.Var k
full_node (Rvar k) = node.Rvar k
full_node (App f a) = node.App (record { 0 = f }) (record { 0 = a })
full_node (Bare b) = node.Abs None (record { 0 = b })
full_node (Annotated n b) = node.Abs (Some (record { 0 = n })) (record { 0 = b })
full_node (Prod a b) = node.Prod (record { 0 = a }) (record { 0 = b })

-- the nodes, and the place of the outermost one
abbrev pub unpacked : Packed → List Node × TermId
unpacked (One node) = (node ∷ [], record { 0 = 0 })
unpacked (Short root nodes) = (map full_node nodes.items, root)
unpacked (Full root nodes) = (nodes.items, root)
