-- For proofs: where the walk stands that makes a term of boxes of what a list of nodes spells.
use Rattle.std.specs.Prelude.{◌≡◌, ℕ, ◌<◌, List, [], ◌∷◌, length}
use Rattle.dk_model.specs.Trees.{Tree, tree}
use Rattle.dk_model.specs.declared.term.Term.{Term}
use Rattle.shared_term.specs.declared.id.TermId.{TermId}
use Rattle.shared_term.specs.declared.building.Waiting.{Waiting}
use Rattle.shared_term.specs.declared.building.Waiting.TheVariants.{First, Second, Body}
use Rattle.shared_term.specs.declared.building.Stage.{Stage}
use Rattle.shared_term.specs.declared.building.Stage.TheVariants.{Before, After}
use Rattle.shared_term.specs.Pools.{Node, term}
use Rattle.shared_term.specs.Building.{whole, turns_left}

-- the second part stands below the number, where it is to be boxed
abbrev pub HasSecond : ℕ → Waiting TermId Term → Type 0
HasSecond n (First pair second) = second.0 < n
HasSecond n (Second pair first) = Unit {0}
HasSecond n Body = Unit {0}

abbrev pub AreThere : ℕ → List (Waiting TermId Term) → Type 0
AreThere n [] = Unit {0}
AreThere n (w ∷ ws) = HasSecond n w × AreThere n ws

abbrev pub IsThere : ℕ → Stage TermId Term → Type 0
IsThere n (Before id) = id.0 < n
IsThere n (After t) = Unit {0}

-- the tree that the walk boxes
abbrev pub boxes : List Node → List (Waiting TermId Term) → Stage TermId Term → Tree
boxes ns ws s = whole (term ns) tree ws s

abbrev pub left_to_box : List Node → List (Waiting TermId Term) → Stage TermId Term → ℕ
left_to_box ns ws s = turns_left (term ns) ws s

-- one turn
pub record Turns (ns : List Node) (ws : List (Waiting TermId Term)) (s : Stage TermId Term)
    (ws' : List (Waiting TermId Term)) (s' : Stage TermId Term) : Type 0 where
  pub there : AreThere (length ns) ws'
  pub at : IsThere (length ns) s'
  pub same : boxes ns ws' s' ≡ boxes ns ws s
  pub fewer : left_to_box ns ws' s' < left_to_box ns ws s
