-- For proofs: how many nodes a term has, and each of its parts.
use Rattle.std.specs.Prelude.{ℕ, ◌+◌}
use Rattle.dk_model.specs.PlainTerms.{Tree, apply, bare, annotated, product}
use Rattle.tree_steps.specs.declared.counts.Counts.{Counts}
use Rattle.tree_steps.specs.declared.counts.Counts.TheVariants.{Leaf, One', Two'}

-- a term without its symbols and variables: for each node how many nodes stand at it and below it
pub data Shape : Type 0 where
  leaf : Shape
  one : ℕ → Shape → Shape
  two : ℕ → Shape → Shape → Shape

abbrev pub size : Shape → ℕ
size leaf = 1
size (one n x) = n
size (two n x y) = n

abbrev pub one_above : Shape → Shape
one_above x = one (1 + size x) x

abbrev pub two_above : Shape → Shape → Shape
two_above x y = two (1 + size x + size y) x y

abbrev pub shape_of : Tree → Shape
shape_of (apply f a) = two_above (shape_of f) (shape_of a)
shape_of (bare b) = one_above (shape_of b)
shape_of (annotated n b) = two_above (shape_of n) (shape_of b)
shape_of (product a b) = two_above (shape_of a) (shape_of b)
shape_of t = leaf

abbrev pub shape : Counts → Shape
shape Leaf = leaf
shape (One' n p x) = one n (shape x)
shape (Two' n p x q y) = two n (shape x) (shape y)
