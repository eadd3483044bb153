-- For proofs: the rows that are left of a selection, as the code holds them.
use Rattle.std.specs.Prelude.{ℕ, ◌≡◌, ◌<◌, ◌≤◌, List, [], ◌∷◌, length, map, drop}
use Rattle.dk_model.specs.Signatures.{PlainRule}
use Rattle.dk_model.specs.Matrix.{rows_for, width}
use Rattle.dk_model.specs.Matrix.{Row as PlainRow}
use Rattle.rule_match.specs.declared.key.Key.{Key}
use Rattle.rule_match.specs.declared.branch.Node.{Node}
use Rattle.rule_match.specs.declared.tree.Tree.{Tree as Compiled}
use Rattle.rule_match.specs.declared.left.Left.{Left}
use Rattle.rule_match.specs.declared.left.Left.TheVariants.{Kept, Whole, Walked}
use Rattle.rule_match.specs.declared.left.Source.{Source}
use Rattle.rule_match.specs.declared.left.Source.TheVariants.{Tree as InTree, Sides}
use Rattle.rule_match.specs.Keys.{rows_by}
use Rattle.rule_match.specs.Rows.{row, kept_row, rule_at}
use Rattle.rule_match.specs.Sides.{widest, AreLeftSides}
use Rattle.rule_match.specs.Branches.{IsNode}
use Rattle.rule_match.specs.Trees.{IsTree}

-- the rows that are left
abbrev pub rows_left : List PlainRule → Left → List PlainRow
rows_left rules (Kept n) = map (kept_row rules) n.now.rows.items
rows_left rules (Whole w) = rows_for w w rules
rows_left rules (Walked v) = map (row rules) v.items

-- they are those of a node of this tree, or were worked out
abbrev pub IsLeft : List PlainRule → Compiled → Left → Type 0
IsLeft rules t (Kept n) = IsNode rules t.nodes.items n.now
IsLeft rules t (Whole w) = ⊥
IsLeft rules t (Walked v) = Unit {0}

-- where they are all rules, none has more patterns than cells
abbrev pub HasRoom : List PlainRule → Left → Type 0
HasRoom rules (Kept n) = Unit {0}
HasRoom rules (Whole w) = widest rules ≤ w
HasRoom rules (Walked v) = Unit {0}

-- a node with the rows that are kept for a head behind the first `tried`
pub record Follows (rules : List PlainRule) (t : Compiled) (n : Node) (tried : ℕ) (key : Key) (at : ℕ) (child : Node) : Type 0 where
  pub rows : map (kept_row rules) child.rows.items ≡ rows_by key at (drop tried (map (kept_row rules) n.rows.items))
  pub is : IsNode rules t.nodes.items child

-- that of these rules: their tree, or their left sides
abbrev pub IsSource : List PlainRule → Source → Type 0
IsSource rules (InTree t) = IsTree rules t.now
IsSource rules (Sides v) = AreLeftSides rules v.items

abbrev pub IsLeftOf : List PlainRule → Source → Left → Type 0
IsLeftOf rules (InTree t) left = IsLeft rules t.now left
IsLeftOf rules (Sides v) left = HasRoom rules left

-- how many rules there are
abbrev pub rule_count : Source → ℕ
rule_count (InTree t) = length t.now.sides.items
rule_count (Sides v) = length v.items

-- none of these rows is of what stands where there is no rule
abbrev pub AreOfNamed : List PlainRow → Type 0
AreOfNamed [] = Unit {0}
AreOfNamed (r ∷ rs) = (0 < r.rule.head) × AreOfNamed rs

-- each of the rows left has the place of a rule: they are those of some rules that aren't what stands where there is none
pub record ArePlaced (s : Source) (l : Left) : Type 0 where
  pub rules : List PlainRule
  pub source : IsSource rules s
  pub left : IsLeftOf rules s l
  pub named : AreOfNamed (rows_left rules l)

-- the rows that a selection begins with before so many arguments, over so many columns
pub record WalksFrom (rules : List PlainRule) (count w : ℕ) (left : Left) : Type 0 where
  pub width : w ≡ width count rules
  pub rows : rows_left rules left ≡ rows_for count w rules
  pub room : HasRoom rules left

-- a rule stands at this place, and has so many variables
pub record HasVariables (rules : List PlainRule) (at count : ℕ) : Type 0 where
  pub there : at < length rules
  pub is : count ≡ (rule_at rules at).vars

-- rows with those that are kept for a head behind the first `tried`
pub record GoesOn (rules : List PlainRule) (s : Source) (old : Left) (tried : ℕ) (key : Key) (at : ℕ) (new : Left) : Type 0 where
  pub rows : rows_left rules new ≡ rows_by key at (drop tried (rows_left rules old))
  pub is : IsLeftOf rules s new

-- the first node of a tree
pub record IsRoot (rules : List PlainRule) (t : Compiled) (n : Node) : Type 0 where
  pub rows : map (kept_row rules) n.rows.items ≡ rows_for (widest rules) (widest rules) rules
  pub is : IsNode rules t.nodes.items n
