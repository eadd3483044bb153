-- What acts at a place acts on the node there, and the result stands in the node's place.
use Rattle.std.proofs.Common.{◌≡◌, ◌∙◌, ℕ, zero, suc, ◌-◌, refl, ap, sym as flip, Bool, true, false, Option, Some, None, arith}
use Rattle.std.specs.Prelude.{if◌then◌else◌, eqb, nat_lt}
use Rattle.std.proofs.Math.Dec.{eqb-suc-zero}
use Rattle.dk_model.specs.PlainTerms.{Tree, star, kind, symbol, variable, rule_variable, apply, bare, annotated, product}
use Rattle.checked_steps.specs.Matching.{nodes, within, at_place}
use Rattle.checked_steps.specs.Taken.{and_then}
use Rattle.tree_steps.specs.Places.{node_at, with_node}

-- ---- the root

first_node : (t : Tree) → node_at 0 t ≡ Some t
first_node star = refl
first_node kind = refl
first_node (symbol k) = refl
first_node (variable k) = refl
first_node (rule_variable k) = refl
first_node (apply f a) = refl
first_node (bare b) = refl
first_node (annotated n b) = refl
first_node (product a b) = refl

with_first : (t u : Tree) → with_node 0 t u ≡ u
with_first star u = refl
with_first kind u = refl
with_first (symbol k) u = refl
with_first (variable k) u = refl
with_first (rule_variable k) u = refl
with_first (apply f a) u = refl
with_first (bare b) u = refl
with_first (annotated n b) u = refl
with_first (product a b) u = refl

pub node_root : (p : ℕ) (t : Tree) → p ≡ 0 → node_at p t ≡ Some t
node_root p t e = ap (λ (q : ℕ). node_at q t) e ∙ first_node t

pub with_root : (p : ℕ) (t u : Tree) → p ≡ 0 → with_node p t u ≡ u
with_root p t u e = ap (λ (q : ℕ). with_node q t u) e ∙ with_first t u

-- ---- below it

within_twice : (c m : Tree → Tree) (o : Option Tree) → within c (within m o) ≡ within (λ u. c (m u)) o
within_twice c m None = refl
within_twice c m (Some t) = refl

-- in the first part or in the second one
in_either : (F : Tree → Option Tree) (b : Bool) (c d m n : Tree → Tree) (x y : Option Tree)
    → (if b then within c (within m (and_then x F)) else within d (within n (and_then y F))) ≡ within (λ u. if b then c (m u) else d (n u)) (and_then (if b then x else y) F)
in_either F true c d m n x y = within_twice c m (and_then x F)
in_either F false c d m n x y = within_twice d n (and_then y F)

root_given : (t : Tree) (o : Option Tree) → o ≡ within (with_node 0 t) o
root_given t None = refl
root_given t (Some u) = ap (λ (w : Tree). Some w) (flip (with_first t u))

later : (p : ℕ) → eqb (suc p) 0 ≡ false
later p = eqb-suc-zero p

before : (p : ℕ) → suc p - 1 ≡ p
before p = omega arith

pub at_place_is : (F : Tree → Option Tree) (p : ℕ) (t : Tree) → at_place F p t ≡ within (λ u. with_node p t u) (and_then (node_at p t) F)
at_place_is F zero t = root_given t (F t) ∙ ap (λ o. within (with_node 0 t) (and_then o F)) (flip (first_node t))
at_place_is F (suc p) star = rw (later p) refl
at_place_is F (suc p) kind = rw (later p) refl
at_place_is F (suc p) (symbol k) = rw (later p) refl
at_place_is F (suc p) (variable k) = rw (later p) refl
at_place_is F (suc p) (rule_variable k) = rw (later p) refl
at_place_is F (suc p) (apply f a) = rw (later p, before p) (
    ap (λ o. if nat_lt p (nodes f) then within (λ g. apply g a) o else within (apply f) (at_place F (p - nodes f) a)) (at_place_is F p f)
    ∙ ap (λ o. if nat_lt p (nodes f) then within (λ g. apply g a) (within (with_node p f) (and_then (node_at p f) F)) else within (apply f) o) (at_place_is F (p - nodes f) a)
    ∙ in_either F (nat_lt p (nodes f)) (λ g. apply g a) (apply f) (with_node p f) (with_node (p - nodes f) a) (node_at p f) (node_at (p - nodes f) a))
at_place_is F (suc p) (bare b) = rw (later p, before p) (ap (within bare) (at_place_is F p b) ∙ within_twice bare (with_node p b) (and_then (node_at p b) F))
at_place_is F (suc p) (annotated n b) = rw (later p, before p) (
    ap (λ o. if nat_lt p (nodes n) then within (λ m. annotated m b) o else within (annotated n) (at_place F (p - nodes n) b)) (at_place_is F p n)
    ∙ ap (λ o. if nat_lt p (nodes n) then within (λ m. annotated m b) (within (with_node p n) (and_then (node_at p n) F)) else within (annotated n) o) (at_place_is F (p - nodes n) b)
    ∙ in_either F (nat_lt p (nodes n)) (λ m. annotated m b) (annotated n) (with_node p n) (with_node (p - nodes n) b) (node_at p n) (node_at (p - nodes n) b))
at_place_is F (suc p) (product a b) = rw (later p, before p) (
    ap (λ o. if nat_lt p (nodes a) then within (λ c. product c b) o else within (product a) (at_place F (p - nodes a) b)) (at_place_is F p a)
    ∙ ap (λ o. if nat_lt p (nodes a) then within (λ c. product c b) (within (with_node p a) (and_then (node_at p a) F)) else within (product a) o) (at_place_is F (p - nodes a) b)
    ∙ in_either F (nat_lt p (nodes a)) (λ c. product c b) (product a) (with_node p a) (with_node (p - nodes a) b) (node_at p a) (node_at (p - nodes a) b))
