-- For proofs: what the nodes of a tree stand for: the rows that are left once the columns before have had their
-- values.
use Rattle.std.specs.Prelude.{ℕ, ◌≡◌, Some, List, [], ◌∷◌, map, drop, slice_get}
use Rattle.dk_model.specs.Signatures.{PlainRule}
use Rattle.dk_model.specs.Matrix.{Row}
use Rattle.rule_match.specs.declared.key.Key.{Key}
use Rattle.rule_match.specs.declared.branch.Branch.{Branch}
use Rattle.rule_match.specs.declared.branch.Node.{Node}
use Rattle.rule_match.specs.Keys.{rows_by}
use Rattle.rule_match.specs.Rows.{kept_row}

-- a branch of this head goes to this node
pub record HasBranch (bs : List Branch) (key : Key) (node : ℕ) : Type 0 where
  pub branch : Branch
  pub place : ℕ
  pub there : slice_get bs place ≡ Some branch
  pub key_is : branch.key ≡ key
  pub node_is : branch.node ≡ node

-- at this place stands a node that has these rows
pub record HasRows (rules : List PlainRule) (nodes : List Node) (i : ℕ) (rows : List Row) : Type 0 where
  pub node : Node
  pub there : slice_get nodes i ≡ Some node
  pub rows_are : map (kept_row rules) node.rows.items ≡ rows

-- each branch goes to a node with the rows that are kept for its head
abbrev pub AreBranches : List PlainRule → List Node → ℕ → List Row → List Branch → Type 0
AreBranches rules nodes column rows [] = Unit {0}
AreBranches rules nodes column rows (b ∷ bs) = HasRows rules nodes b.node (rows_by b.key column rows) × AreBranches rules nodes column rows bs

abbrev pub IsNode : List PlainRule → List Node → Node → Type 0
IsNode rules nodes n = AreBranches rules nodes n.column (drop n.tried (map (kept_row rules) n.rows.items)) n.branches.items

-- that of these nodes
abbrev pub AreNodes : List PlainRule → List Node → List Node → Type 0
AreNodes rules nodes [] = Unit {0}
AreNodes rules nodes (n ∷ ns) = IsNode rules nodes n × AreNodes rules nodes ns

-- the nodes of a tree
abbrev pub AreTests : List PlainRule → List Node → Type 0
AreTests rules nodes = AreNodes rules nodes nodes

-- what stood at a place stands there still
abbrev pub Keeps : List Node → List Node → Type 0
Keeps old new = (i : ℕ) (n : Node) → slice_get old i ≡ Some n → slice_get new i ≡ Some n

-- nodes were added, and one of them has these rows; where there is none, nothing is said
pub record AddsRows (rules : List PlainRule) (old new : List Node) (rows : List Row) (i : ℕ) : Type 0 where
  pub keeps : Keeps old new
  pub tests : AreTests rules new
  pub there : HasRows rules new i rows
