-- The counts of a term are right: at each node as many as it has nodes.
use Rattle.std.proofs.Common.{◌≡◌, refl, sym as flip}
use Rattle.dk_model.specs.PlainTerms.{Tree, star, kind, symbol, variable, rule_variable, apply, bare, annotated, product}
use Rattle.checked_steps.specs.Matching.{nodes}
use Rattle.tree_steps.specs.Shapes.{size, shape_of}

size_is : (t : Tree) → size (shape_of t) ≡ nodes t
size_is star = refl
size_is kind = refl
size_is (symbol k) = refl
size_is (variable k) = refl
size_is (rule_variable k) = refl
size_is (apply f a) = rw (size_is f, size_is a) refl
size_is (bare b) = rw (size_is b) refl
size_is (annotated n b) = rw (size_is n, size_is b) refl
size_is (product a b) = rw (size_is a, size_is b) refl

pub nodes_counted : (t : Tree) → nodes t ≡ size (shape_of t)
nodes_counted t = flip (size_is t)
