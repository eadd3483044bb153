-- For proofs: a walk that builds a term from its parts: what waits, and how much is left to do.
use Rattle.std.specs.Prelude.{ℕ, ◌+◌, List, [], ◌∷◌}
use Rattle.dk_model.specs.Trees.{Tree, apply, bare, annotated, product}
use Rattle.shared_term.specs.declared.building.Waiting.{Waiting}
use Rattle.shared_term.specs.declared.building.Waiting.TheVariants.{First, Second, Body}
use Rattle.shared_term.specs.declared.building.Stage.{Stage}
use Rattle.shared_term.specs.declared.building.Stage.TheVariants.{Before, After}
use Rattle.shared_term.specs.Changes.{joined}

-- the turns that a tree takes
abbrev pub turns : Tree → ℕ
turns (apply f a) = turns f + turns a + 3
turns (bare b) = turns b + 2
turns (annotated n b) = turns n + turns b + 3
turns (product a b) = turns a + turns b + 3
turns t = 1

-- by the trees of parts that are to be built
module _ {S T : Type 0} (given : S → Tree) where
  -- the turns from when a term gets the part that it waits for until it is built
  abbrev pub turns_of : Waiting S T → ℕ
  turns_of (First pair second) = turns (given second) + 2
  turns_of (Second pair first) = 1
  turns_of Body = 1

  abbrev pub turns_waiting : List (Waiting S T) → ℕ
  turns_waiting [] = 0
  turns_waiting (w ∷ ws) = turns_of w + turns_waiting ws

  abbrev pub turns_at : Stage S T → ℕ
  turns_at (Before s) = turns (given s)
  turns_at (After t) = 0

  abbrev pub turns_left : List (Waiting S T) → Stage S T → ℕ
  turns_left ws s = turns_waiting ws + turns_at s

  -- and of those that have been
  module _ (built : T → Tree) where
    -- the term that waits, with the tree for the part that it waits for
    abbrev pub with_part : Waiting S T → Tree → Tree
    with_part (First pair second) y = joined pair y (given second)
    with_part (Second pair first) y = joined pair (built first) y
    with_part Body y = bare y

    -- the outermost term, where each waits for the next one, and the last for the tree
    abbrev pub outermost : List (Waiting S T) → Tree → Tree
    outermost [] y = y
    outermost (w ∷ ws) y = with_part w (outermost ws y)

    abbrev pub tree_at : Stage S T → Tree
    tree_at (Before s) = given s
    tree_at (After t) = built t

    -- the tree that the walk builds
    abbrev pub whole : List (Waiting S T) → Stage S T → Tree
    whole ws s = outermost ws (tree_at s)
