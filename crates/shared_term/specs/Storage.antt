-- For callers: a term in a list of its own nodes.
use Rattle.std.specs.Prelude.{◌≡◌, ℕ, ◌<◌, ◌≤◌, Bool, true, false, List, length, get_or, slice_get, Some, None}
use Rattle.dk_model.specs.Trees.{Tree, star}
use Rattle.dk_model.specs.declared.NodeOf.TheVariants.{Star, Kind, Sym, Var, Rvar, App, Abs, Prod}
use Rattle.shared_term.specs.declared.id.TermId.{TermId}
use Rattle.shared_term.specs.Pools.{Node, IsWithin, denoted, terms, term}

-- the parts of each node stand before it, and its term is the node's over theirs
pub record IsSpelt (ns : List Node) : Type 0 where
  pub within : (i : ℕ) (n : Node) → slice_get ns i ≡ Some n → IsWithin i n
  pub built : (i : ℕ) (n : Node) → slice_get ns i ≡ Some n → get_or (terms ns) i star ≡ denoted (terms ns) n

-- a list of nodes and the place of the root
abbrev pub IsStored : List Node → TermId → Type 0
IsStored ns root = IsSpelt ns × (root.0 < length ns)

-- the term of a list and a place in it
abbrev pub stored_term : List Node × TermId → Tree
stored_term s = term s.0 s.1

-- the node, with each part at the place that the list has for it
abbrev pub renamed : List TermId → Node → Node
renamed ps Star = Star
renamed ps Kind = Kind
renamed ps (Sym k) = Sym k
renamed ps (Var k) = Var k
renamed ps (Rvar k) = Rvar k
renamed ps (App f a) = App (get_or ps f.0 f) (get_or ps a.0 a)
renamed ps (Abs None b) = Abs None (get_or ps b.0 b)
renamed ps (Abs (Some n) b) = Abs (Some (get_or ps n.0 n)) (get_or ps b.0 b)
renamed ps (Prod a b) = Prod (get_or ps a.0 a) (get_or ps b.0 b)

-- the places in a pool of the first nodes of a list
pub record AreLoaded (stored pool : List Node) (ps : List TermId) : Type 0 where
  pub there : (i : ℕ) (d : TermId) → i < length ps → (get_or ps i d).0 < length pool
  pub same : (i : ℕ) (d : TermId) → i < length ps → get_or (terms pool) (get_or ps i d).0 star ≡ get_or (terms stored) i star

-- the place is marked
abbrev pub IsNeeded : List Bool → ℕ → Type 0
IsNeeded marks i = slice_get marks i ≡ Some true

abbrev pub PartsNeeded : List Bool → Node → Type 0
PartsNeeded marks Star = Unit {0}
PartsNeeded marks Kind = Unit {0}
PartsNeeded marks (Sym k) = Unit {0}
PartsNeeded marks (Var k) = Unit {0}
PartsNeeded marks (Rvar k) = Unit {0}
PartsNeeded marks (App f a) = IsNeeded marks f.0 × IsNeeded marks a.0
PartsNeeded marks (Abs None b) = IsNeeded marks b.0
PartsNeeded marks (Abs (Some n) b) = IsNeeded marks n.0 × IsNeeded marks b.0
PartsNeeded marks (Prod a b) = IsNeeded marks a.0 × IsNeeded marks b.0

-- the parts of each marked node from a place on are marked
pub record AreMarked (pool : List Node) (marks : List Bool) (from : ℕ) : Type 0 where
  pub parts : (i : ℕ) (n : Node) → from ≤ i → slice_get pool i ≡ Some n → IsNeeded marks i → PartsNeeded marks n

-- the places in a list of those nodes of a pool that are marked
pub record ArePlaced (pool out : List Node) (marks : List Bool) (ps : List TermId) : Type 0 where
  pub there : (i : ℕ) (d : TermId) → i < length ps → IsNeeded marks i → (get_or ps i d).0 < length out
  pub same : (i : ℕ) (d : TermId) → i < length ps → IsNeeded marks i → get_or (terms out) (get_or ps i d).0 star ≡ get_or (terms pool) i star

abbrev pub is_annotated : Node → Bool
is_annotated (Abs (Some n) b) = true
is_annotated n = false
