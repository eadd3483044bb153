-- For callers: what the nodes of a pool denote.
use Rattle.std.specs.Prelude.{◌≡◌, ℕ, ◌+◌, ◌<◌, ◌≤◌, ◌^◌, List, [], ◌∷◌, ◌++◌, length, get_or, slice_get, Some, None}
use Rattle.dk_model.specs.Trees.{Tree, star, kind, symbol, variable, rule_variable, apply, bare, annotated, product}
use Rattle.dk_model.specs.declared.NodeOf.{NodeOf}
use Rattle.dk_model.specs.declared.NodeOf.TheVariants.{Star, Kind, Sym, Var, Rvar, App, Abs, Prod}
use Rattle.shared_term.specs.declared.id.TermId.{TermId}

abbrev pub Node : Type 0
Node = NodeOf TermId

-- the term at a place
abbrev pub at : List Tree → TermId → Tree
at ts i = get_or ts i.0 star

-- what a node denotes, where its parts are among these terms
abbrev pub denoted : List Tree → Node → Tree
denoted ts Star = star
denoted ts Kind = kind
denoted ts (Sym k) = symbol k
denoted ts (Var k) = variable k
denoted ts (Rvar k) = rule_variable k
denoted ts (App f a) = apply (at ts f) (at ts a)
denoted ts (Abs None b) = bare (at ts b)
denoted ts (Abs (Some n) b) = annotated (at ts n) (at ts b)
denoted ts (Prod a b) = product (at ts a) (at ts b)

-- each part of a node lies below the number
abbrev pub IsWithin : ℕ → Node → Type 0
IsWithin n Star = Unit {0}
IsWithin n Kind = Unit {0}
IsWithin n (Sym k) = Unit {0}
IsWithin n (Var k) = Unit {0}
IsWithin n (Rvar k) = Unit {0}
IsWithin n (App f a) = (f.0 < n) × (a.0 < n)
IsWithin n (Abs None b) = b.0 < n
IsWithin n (Abs (Some a) b) = (a.0 < n) × (b.0 < n)
IsWithin n (Prod a b) = (a.0 < n) × (b.0 < n)

-- the terms of the nodes in turn, after those that stand before them
abbrev pub terms_after : List Tree → List Node → List Tree
terms_after ts [] = ts
terms_after ts (n ∷ ns) = terms_after (ts ++ denoted ts n ∷ []) ns

-- the terms of a pool's nodes, place by place
unfoldable pub terms : List Node → List Tree
terms ns = terms_after [] ns

-- the term at a place of a pool
abbrev pub term : List Node → TermId → Tree
term ns i = at (terms ns) i

-- the parts of each node stand before it, its term is the node's over theirs, and no two places have the same term
pub record IsPool (ns : List Node) : Type 0 where
  pub within : (i : ℕ) (n : Node) → slice_get ns i ≡ Some n → IsWithin i n
  pub built : (i : ℕ) (n : Node) → slice_get ns i ≡ Some n → get_or (terms ns) i star ≡ denoted (terms ns) n
  pub once : (i j : ℕ) → i < length ns → j < length ns → get_or (terms ns) i star ≡ get_or (terms ns) j star → i ≡ j

-- what was denoted is denoted still
pub record Extends (old new : List Node) : Type 0 where
  pub longer : length old ≤ length new
  pub keeps : (i : ℕ) → i < length old → get_or (terms new) i star ≡ get_or (terms old) i star

-- a summary has room for one more than the variable
abbrev pub HasNext : Node → Type 0
HasNext (Var k) = k + 1 < 2 ^ 32
HasNext n = Unit {0}

-- the one term, in the pool as it was, is taken to the other, in the pool as it is
pub record Moves (g : Tree → Tree) (old new : List Node) (x y : TermId) : Type 0 where
  pub there : y.0 < length new
  pub is : term new y ≡ g (term old x)
