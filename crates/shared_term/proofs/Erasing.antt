-- Nodes of which none has an annotation.
use Rattle.std.proofs.Common.{◌≡◌, ℕ, ◌+◌, ◌<◌, false, List, Some, None, get_or, refl, ap, subst, sym, ◌∙◌, ◌⊎◌, inl, inr}
use Rattle.dk_model.specs.Erasure.{erased}
use Rattle.dk_model.specs.Trees.{Tree, bare, star}
use Rattle.dk_model.specs.declared.NodeOf.TheVariants.{Star, Kind, Sym, Var, Rvar, App, Abs, Prod}
use Rattle.shared_term.specs.Pools.{Node, IsWithin, denoted}
use Rattle.shared_term.specs.Storage.{is_annotated}
use Rattle.shared_term.proofs.Growth.{below_or_last}

-- a node without an annotation, of parts that are erased
pub erased_node : (ts : List Tree) (k : ℕ) (n : Node) → IsWithin k n → is_annotated n ≡ false
    → ((i : ℕ) → i < k → erased (get_or ts i star) ≡ get_or ts i star) → erased (denoted ts n) ≡ denoted ts n
erased_node ts k Star w a e = refl
erased_node ts k Kind w a e = refl
erased_node ts k (Sym x) w a e = refl
erased_node ts k (Var x) w a e = refl
erased_node ts k (Rvar x) w a e = refl
erased_node ts k (App f x) w a e = let p = e f.0 w.0 in let q = e x.0 w.1 in cc
erased_node ts k (Abs None b) w a e = ap bare (e b.0 w)
erased_node ts k (Abs (Some n) b) w a e = cc
erased_node ts k (Prod x b) w a e = let p = e x.0 w.0 in let q = e b.0 w.1 in cc

-- one node more
pub erased_more : (ts : List Tree) (k : ℕ) (n : Node) → IsWithin k n → get_or ts k star ≡ denoted ts n → is_annotated n ≡ false
    → ((i : ℕ) → i < k → erased (get_or ts i star) ≡ get_or ts i star)
    → (i : ℕ) → i < k + 1 → erased (get_or ts i star) ≡ get_or ts i star
erased_more ts k n w is a e i l = by_place (below_or_last i k l)
  where
    by_place : (i < k) ⊎ (i ≡ k) → erased (get_or ts i star) ≡ get_or ts i star
    by_place (inl below) = e i below
    by_place (inr at) = subst (λ (j : ℕ). erased (get_or ts j star) ≡ get_or ts j star) (sym at)
        (ap erased is ∙ erased_node ts k n w a e ∙ sym is)
