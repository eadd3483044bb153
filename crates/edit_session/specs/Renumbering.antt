-- For proofs: a stored term with other numbers for its symbols, node by node.
use Rattle.std.specs.Prelude.{ℕ, ◌≡◌, ◌<◌, List, length, get_or}
use Rattle.dk_model.specs.Trees.{star}
use Rattle.dk_model.specs.declared.NodeOf.TheVariants.{Sym}
use Rattle.prune_theory.specs.Renamed.{with_symbols}
use Rattle.shared_term.specs.Pools.{Node, terms}
use Rattle.shared_term.specs.Storage.{renamed}
use Rattle.shared_term.specs.declared.id.TermId.{TermId}

-- the node with another number, or with its parts at their places in the pool
abbrev pub renumbered_node : (ℕ → ℕ) → List TermId → Node → Node
renumbered_node m ps (Sym k) = Sym (m k)
renumbered_node m ps n = renamed ps n

-- the places in a pool of the first nodes of a list, with these numbers
pub record AreRenumbered (m : ℕ → ℕ) (stored pool : List Node) (ps : List TermId) : Type 0 where
  pub there : (i : ℕ) (d : TermId) → i < length ps → (get_or ps i d).0 < length pool
  pub same : (i : ℕ) (d : TermId) → i < length ps → get_or (terms pool) (get_or ps i d).0 star ≡ with_symbols m (get_or (terms stored) i star)
