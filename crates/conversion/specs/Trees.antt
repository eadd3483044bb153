-- For proofs: the trees that a reducer keeps, and those that an evaluation selects by.
use Rattle.std.specs.Prelude.{List, [], ◌∷◌}
use Rattle.dk_model.specs.Signatures.{PlainSignature}
use Rattle.dk_model.specs.SymbolRules.{rules_of}
use Rattle.rule_match.specs.Trees.{IsTree}
use Rattle.conversion.specs.declared.trees.SymbolTree.{SymbolTree}
use Rattle.conversion.specs.declared.trees.Trees.{Trees}
use Rattle.conversion.specs.declared.trees.NewTree.{NewTree}
use Rattle.conversion.specs.declared.trees.TreesInUse.{TreesInUse}

-- each is the tree of its symbol's rules in this signature
abbrev pub AreListed : PlainSignature → List SymbolTree → Type 0
AreListed S [] = Unit {0}
AreListed S (t ∷ ts) = IsTree (rules_of S t.symbol) t.tree × AreListed S ts

abbrev pub AreTrees : PlainSignature → Trees → Type 0
AreTrees S trees = AreListed S trees.listed.items

-- the same of those that were compiled since
abbrev pub AreNew : PlainSignature → List NewTree → Type 0
AreNew S [] = Unit {0}
AreNew S (t ∷ ts) = IsTree (rules_of S t.symbol) t.tree.now × AreNew S ts

abbrev pub AreInUse : PlainSignature → TreesInUse → Type 0
AreInUse S trees = AreTrees S trees.kept.now × AreNew S trees.new.items
