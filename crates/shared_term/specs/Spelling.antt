-- For proofs: where the walk stands that spells a term of boxes in a list of nodes.
use Rattle.std.specs.Prelude.{◌≡◌, ℕ, ◌<◌, Bool, List, [], ◌∷◌, length, if◌then◌else◌}
use Rattle.std.specs.Borrow.{Bor}
use Rattle.dk_model.specs.Trees.{Tree, tree}
use Rattle.dk_model.specs.Erasure.{erased}
use Rattle.dk_model.specs.declared.term.Term.{Term}
use Rattle.shared_term.specs.declared.id.TermId.{TermId}
use Rattle.shared_term.specs.declared.building.Waiting.{Waiting}
use Rattle.shared_term.specs.declared.building.Waiting.TheVariants.{First, Second, Body}
use Rattle.shared_term.specs.declared.building.Stage.{Stage}
use Rattle.shared_term.specs.declared.building.Stage.TheVariants.{Before, After}
use Rattle.shared_term.specs.Pools.{Node, term}
use Rattle.shared_term.specs.Storage.{IsSpelt}
use Rattle.shared_term.specs.Building.{whole, turns_left}

-- the tree, or the same without its annotations
abbrev pub spelt_tree : Bool → Tree → Tree
spelt_tree erases t = if erases then erased t else t

abbrev pub boxed_tree : Bool → Bor Term → Tree
boxed_tree erases t = spelt_tree erases (tree t.now)

-- the first part stands below the number, where it has been spelt
abbrev pub HasFirst : ℕ → Waiting (Bor Term) TermId → Type 0
HasFirst n (First pair second) = Unit {0}
HasFirst n (Second pair first) = first.0 < n
HasFirst n Body = Unit {0}

abbrev pub AreThere : ℕ → List (Waiting (Bor Term) TermId) → Type 0
AreThere n [] = Unit {0}
AreThere n (w ∷ ws) = HasFirst n w × AreThere n ws

abbrev pub IsThere : ℕ → Stage (Bor Term) TermId → Type 0
IsThere n (Before t) = Unit {0}
IsThere n (After id) = id.0 < n

-- the tree that the walk spells
abbrev pub spells : Bool → List Node → List (Waiting (Bor Term) TermId) → Stage (Bor Term) TermId → Tree
spells erases ns ws s = whole (boxed_tree erases) (term ns) ws s

abbrev pub left_to_spell : Bool → List (Waiting (Bor Term) TermId) → Stage (Bor Term) TermId → ℕ
left_to_spell erases ws s = turns_left (boxed_tree erases) ws s

-- one turn, in a list of nodes that may have grown
pub record Turns (erases : Bool) (old new : List Node) (ws : List (Waiting (Bor Term) TermId)) (s : Stage (Bor Term) TermId)
    (ws' : List (Waiting (Bor Term) TermId)) (s' : Stage (Bor Term) TermId) : Type 0 where
  pub spelt : IsSpelt new
  pub there : AreThere (length new) ws'
  pub at : IsThere (length new) s'
  pub same : spells erases new ws' s' ≡ spells erases old ws s
  pub fewer : left_to_spell erases ws' s' < left_to_spell erases ws s
