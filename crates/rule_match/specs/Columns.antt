-- For callers: how the code holds columns of terms, and a term as a head beside a stack of arguments.
use Rattle.std.specs.Prelude.{ℕ, zero, suc, ◌≡◌, ◌<◌, ◌+◌, List, [], ◌∷◌, ◌++◌, map, take, drop, length}
use Rattle.dk_model.specs.Trees.{Tree}
use Rattle.dk_model.specs.Spines.{head, arguments}
use Rattle.dk_model.specs.Matrix.{Column as PlainColumn}
use Rattle.shared_term.specs.declared.id.TermId.{TermId}
use Rattle.shared_term.specs.Pools.{Node, term}
pub use Rattle.shared_term.specs.Winding.{behind, AreWithin, wound, is_application}
use Rattle.rule_match.specs.declared.value.Column.{Column}

-- a column of terms of a pool
abbrev pub column : List Node → Column → PlainColumn
column ns c = record { depth = c.depth; term = term ns c.term }

abbrev pub plain : List Node → List Column → List PlainColumn
plain ns cs = map (column ns) cs

-- a column of an argument
abbrev pub argument_column : ℕ → TermId → Column
argument_column depth a = record { depth = depth; term = a }

-- each column is a term of a pool of so many nodes
abbrev pub AreColumns : ℕ → List Column → Type 0
AreColumns n [] = Unit {0}
AreColumns n (c ∷ cs) = (c.term.0 < n) × AreColumns n cs

-- the items of a stack, the last one first: its arguments from left to right
abbrev pub from_top : {A : Type 0} → List A → List A
from_top [] = []
from_top (x ∷ xs) = from_top xs ++ (x ∷ [])

-- the head of this value, which has so many arguments
pub record IsHeadOf (h : Tree) (count : ℕ) (v : Tree) : Type 0 where
  pub is : h ≡ head v
  pub counted : count ≡ length (arguments v)

-- how many variables a pattern binds at a column
abbrev pub depth_at : List Column → ℕ → ℕ
depth_at [] i = 0
depth_at (c ∷ cs) zero = c.depth
depth_at (c ∷ cs) (suc i) = depth_at cs i

-- the columns with a value in its place, and those of its parts behind it
abbrev pub value_put : List Column → ℕ → TermId → List Column → List Column
value_put cs at v parts = (take at cs ++ record { depth = depth_at cs at; term = v } ∷ parts) ++ drop (at + 1) cs
