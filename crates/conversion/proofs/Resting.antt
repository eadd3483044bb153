-- Terms that are their own weak head forms at once.
use Rattle.std.proofs.Common.{List, [], ◌∷◌, ◌++◌, ◌≡◌, ◌<◌, ℕ, true, Option, Some, None, refl, ap, ◌∙◌, sym as flip, subst, arith, length}
use Rattle.std.specs.Prelude.{IfSome, slice_get}
use Rattle.dk_model.specs.Trees.{Tree, symbol, apply, bare}
use Rattle.dk_model.specs.Signatures.{PlainSignature}
use Rattle.dk_model.specs.SymbolRules.{rules_of}
use Rattle.dk_model.specs.Evaluation.{whnf_of}
use Rattle.shared_term.specs.declared.id.TermId.{TermId}
use Rattle.shared_term.specs.Pools.{Node, term}
use Rattle.conversion.specs.Machine.{wound, is_stuck}
use Rattle.conversion.specs.declared.table.Table.{Table}
use Rattle.conversion.specs.declared.state.Value.{Value}
use Rattle.conversion.specs.Tables.{Remembers}
use Rattle.conversion.specs.Reducers.{IsValue, AreValues}
use Rattle.dk_model.proofs.Winding.{wound_pushed as wound_tree}
use Rattle.conversion.proofs.Winding.{extends_none}
use Rattle.conversion.proofs.Turning.{stands, symbol_selects, tree_stuck}
use Rattle.conversion.proofs.Unfolding.{rule_stands}
use Rattle.conversion.proofs.Serving.{value_made}

-- the tree is the head before some arguments
abbrev pub IsHeadOf : Tree → Tree → Type 0
IsHeadOf h t = (xs : List Tree) × (wound h xs ≡ t)

pub head_itself : (t : Tree) → IsHeadOf t t
head_itself t = ([], refl)

pub head_further : (h f a t : Tree) → h ≡ apply f a → IsHeadOf h t → IsHeadOf f t
head_further h f a t e p = (p.0 ++ (a ∷ []), wound_tree f p.0 a ∙ ap (λ (u : Tree). wound u p.0) (flip e) ∙ p.1)

module _ (S : PlainSignature) (ns : List Node) (id : TermId) (l : id.0 < length ns) where
  at_once : (t : Tree) → t ≡ term ns id → whnf_of S 1 t ≡ Some (t, 0) → IsValue S ns id.0 (record { id = id; units = 1 })
  at_once t p e =
      value_made S ns ns id (record { id = id; units = 1 }) 1 0 (extends_none ns) l l (subst (λ (u : Tree). whnf_of S 1 u ≡ Some (u, 0)) p e) refl

  pub stuck_rests : (h : Tree) → IsHeadOf h (term ns id) → is_stuck h ≡ true → IsValue S ns id.0 (record { id = id; units = 1 })
  stuck_rests h p e = at_once (wound h p.0) p.1 (tree_stuck S 1 h p.0 (omega arith) e)

  pub symbol_rests : (h : Tree) (k : ℕ) → IsHeadOf h (term ns id) → h ≡ symbol k → slice_get (rules_of S k) 0 ≡ None → IsValue S ns id.0 (record { id = id; units = 1 })
  symbol_rests h k p e q =
      at_once (wound (symbol k) p.0) (ap (λ (u : Tree). wound u p.0) (flip e) ∙ p.1) (symbol_selects S 1 k p.0 (omega arith) ∙ rule_stands S 0 k p.0 q)

  pub bare_rests : (h b : Tree) → h ≡ bare b → h ≡ term ns id → IsValue S ns id.0 (record { id = id; units = 1 })
  bare_rests h b e p = at_once (bare b) (flip e ∙ p) (stands S 1 (bare b) (omega arith) refl refl)

-- a form that is remembered
pub found_is : (S : PlainSignature) (ns : List Node) (t : Table Value) (i : ℕ) (o : Option Value) → AreValues S ns t → IfSome o (λ v. Remembers t i 0 v) → IfSome o (λ v. IsValue S ns i v)
found_is S ns t i None h f = tt
found_is S ns t i (Some v) h f = h.each i 0 v f
