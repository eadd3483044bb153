-- For callers: a term of a pool as a head beside a stack of its arguments.
use Rattle.std.specs.Prelude.{ℕ, ◌<◌, List, [], ◌∷◌, map}
use Rattle.dk_model.specs.Trees.{Tree}
use Rattle.shared_term.specs.declared.id.TermId.{TermId}
use Rattle.shared_term.specs.Pools.{Node, term}
pub use Rattle.dk_model.specs.Winding.{wound, is_application}

-- the terms of a stack
abbrev pub behind : List Node → List TermId → List Tree
behind ns ids = map (term ns) ids

-- each of these is a term of a pool of so many nodes
abbrev pub AreWithin : ℕ → List TermId → Type 0
AreWithin n [] = Unit {0}
AreWithin n (i ∷ ids) = (i.0 < n) × AreWithin n ids
