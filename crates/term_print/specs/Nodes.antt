-- For callers: the term of a node.
use Rattle.std.specs.Prelude.{ℕ, None, Some}
use Rattle.dk_model.specs.PlainTerms.{Tree, star, kind, symbol, variable, rule_variable, apply, bare, annotated, product}
use Rattle.dk_model.specs.declared.node.NodeOf.{NodeOf}
use Rattle.dk_model.specs.declared.node.NodeOf.TheVariants.{Star, Kind, Sym, Var, Rvar, App, Abs, Prod}

abbrev pub node_tree : (ℕ → Tree) → NodeOf ℕ → Tree
node_tree denotes Star = star
node_tree denotes Kind = kind
node_tree denotes (Sym k) = symbol k
node_tree denotes (Var k) = variable k
node_tree denotes (Rvar k) = rule_variable k
node_tree denotes (App f a) = apply (denotes f) (denotes a)
node_tree denotes (Abs None b) = bare (denotes b)
node_tree denotes (Abs (Some n) b) = annotated (denotes n) (denotes b)
node_tree denotes (Prod a b) = product (denotes a) (denotes b)
