-- For callers: a tree of tests for the rules of a symbol: its nodes stand for the rows that are left, and the first
-- one for all rows.
use Rattle.std.specs.Prelude.{◌≡◌, IfSome, List}
use Rattle.dk_model.specs.Signatures.{PlainRule}
use Rattle.dk_model.specs.Matrix.{rows_for}
use Rattle.rule_match.specs.declared.tree.Tree.{Tree}
use Rattle.rule_match.specs.Rows.{AreNamed}
use Rattle.rule_match.specs.Sides.{AreSides, widest}
use Rattle.rule_match.specs.Branches.{AreTests, HasRows}

-- its left sides and its nodes are those of these rules
pub record HasNodes (rules : List PlainRule) (t : Tree) : Type 0 where
  pub sides : AreSides rules t.sides.items
  pub most : t.widest ≡ widest rules
  pub tests : AreTests rules t.nodes.items
  pub root : IfSome t.root (λ i. HasRows rules t.nodes.items i (rows_for (widest rules) (widest rules) rules))

-- each of its rows has the place of a rule: its nodes are those of some rules that aren't what stands where there is none
pub record IsPlaced (t : Tree) : Type 0 where
  pub rules : List PlainRule
  pub named : AreNamed rules
  pub nodes : HasNodes rules t

-- the tree of these rules
pub record IsTree (rules : List PlainRule) (t : Tree) : Type 0 where
  pub nodes : HasNodes rules t
  pub placed : IsPlaced t
