-- The trees of symbols: those that are found and put in.
use Rattle.std.proofs.Common.{List, [], ◌∷◌, ◌++◌, ◌≡◌, ◌<◌, ℕ, zero, suc, subst, sym as flip, arith, length, get_or}
use Rattle.std.specs.Prelude.{insert}
use Rattle.dk_model.specs.Signatures.{PlainSignature}
use Rattle.dk_model.specs.SymbolRules.{rules_of}
use Rattle.rule_match.specs.Trees.{IsTree}
use Rattle.conversion.specs.declared.trees.SymbolTree.{SymbolTree}
use Rattle.conversion.specs.declared.trees.NewTree.{NewTree}
use Rattle.conversion.specs.Trees.{AreListed, AreNew}

pub tree_at : (S : PlainSignature) (ts : List SymbolTree) (i : ℕ) (t : SymbolTree) → AreListed S ts → i < length ts → t ≡ get_or ts i t → IsTree (rules_of S t.symbol) t.tree
tree_at S [] i t h l e = absurd (omega arith)
tree_at S (x ∷ ts) zero t h l e = subst (λ (y : SymbolTree). IsTree (rules_of S y.symbol) y.tree) (flip e) h.0
tree_at S (x ∷ ts) (suc i) t h l e = tree_at S ts i t h.1 (omega arith) e

pub tree_put : (S : PlainSignature) (ts : List SymbolTree) (i : ℕ) (t : SymbolTree) → AreListed S ts → IsTree (rules_of S t.symbol) t.tree → AreListed S (insert ts i t)
tree_put S [] zero t h k = (k, tt)
tree_put S [] (suc i) t h k = (k, tt)
tree_put S (x ∷ ts) zero t h k = (k, h)
tree_put S (x ∷ ts) (suc i) t h k = (h.0, tree_put S ts i t h.1 k)

pub new_at : (S : PlainSignature) (ts : List NewTree) (i : ℕ) (t : NewTree) → AreNew S ts → i < length ts → t ≡ get_or ts i t → IsTree (rules_of S t.symbol) t.tree.now
new_at S [] i t h l e = absurd (omega arith)
new_at S (x ∷ ts) zero t h l e = subst (λ (y : NewTree). IsTree (rules_of S y.symbol) y.tree.now) (flip e) h.0
new_at S (x ∷ ts) (suc i) t h l e = new_at S ts i t h.1 (omega arith) e

pub new_pushed : (S : PlainSignature) (ts : List NewTree) (t : NewTree) → AreNew S ts → IsTree (rules_of S t.symbol) t.tree.now → AreNew S (ts ++ (t ∷ []))
new_pushed S [] t h k = (k, tt)
new_pushed S (x ∷ ts) t h k = (h.0, new_pushed S ts t h.1 k)

pub listed_popped : (S : PlainSignature) (ts : List SymbolTree) (t : SymbolTree) → AreListed S (ts ++ (t ∷ [])) → AreListed S ts × IsTree (rules_of S t.symbol) t.tree
listed_popped S [] t h = (tt, h.0)
listed_popped S (x ∷ ts) t h = let r = listed_popped S ts t h.1 in ((h.0, r.0), r.1)
